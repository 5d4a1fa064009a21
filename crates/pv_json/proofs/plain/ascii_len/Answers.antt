use Rattle.std.proofs.Common.{arith}
use Rattle.std.proofs.lemmas.Str.Ascii.{IsAscii-more}
use Rattle.pv_json.proofs.PlainTexts.{plain_more, plain_next}
use Rattle.pv_json.proofs.plain.ascii_len.Goals as goal

pub loop-b-preserved : goal.loop-b-preserved
loop-b-preserved c =
    let next = plain_next c.args.s.now c.loop-b.b-index c.loop-b-test.true c.if-b-lt32.false c.if-b-ge128.false c.if-b-eq34.false c.if-b-eq92.false in (
      omega (arith, c.loop-b.invariant.0),
      omega (arith, c.loop-b.invariant.1, next),
      plain_more c.args.s.now c.loop-b.b-index c.loop-b-test.true c.if-b-lt32.false c.if-b-eq34.false c.if-b-eq92.false c.loop-b.invariant.2,
      IsAscii-more c.args.s.now c.loop-b.b-index c.loop-b-test.true c.loop-b.invariant.3 c.if-b-ge128.false,
    )
