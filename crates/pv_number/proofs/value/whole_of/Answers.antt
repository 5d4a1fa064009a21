use Rattle.std.proofs.Common.{arith, rules, length-append}
use Rattle.std.proofs.lemmas.Int.{ints, to_z-of_z}
use Rattle.std.specs.Int.{w128}
use Rattle.pv_number.proofs.WholeValue.{zero_of, fraction_of, past_of, some_of, none_of}
use Rattle.pv_number.proofs.value.whole_of.Goals as goal

pub returns-then-kept-eq0 : goal.returns-then-kept-eq0
returns-then-kept-eq0 c = zero_of c.args.decimal.now _ c.significant_len-kept.ensures.value (omega arith)

pub returns-then-exponent-lt0 : goal.returns-then-exponent-lt0
returns-then-exponent-lt0 c =
    fraction_of c.args.decimal.now _ _ c.significant_len-kept.ensures.value c.significant_len-kept.ensures.last (omega arith) (omega (arith, length-append c.args.decimal.now.whole.now c.args.decimal.now.fraction.now), omega arith) c.exponent_at-exponent.ensures (omega (arith, ints))

pub returns-then-exponent-gt38 : goal.returns-then-exponent-gt38
returns-then-exponent-gt38 c =
    past_of c.args.decimal.now _ _ c.significant_len-kept.ensures.value c.significant_len-kept.ensures.last (omega arith) (omega (arith, length-append c.args.decimal.now.whole.now c.args.decimal.now.fraction.now), omega arith) c.exponent_at-exponent.ensures (omega (arith, ints))

pub returns-in-Some : goal.returns-in-Some
returns-in-Some c =
    rw (to_z-of_z w128 c.in-Some.n (search rules))
    (some_of c.args.decimal.now _ _ _ _ c.significant_len-kept.ensures.value (omega (arith, length-append c.args.decimal.now.whole.now c.args.decimal.now.fraction.now), omega arith) c.exponent_at-exponent.ensures (omega (arith, ints)) (omega (arith, ints)) c.in-Some.ensures)

pub returns-in-None : goal.returns-in-None
returns-in-None c =
    none_of c.args.decimal.now _ _ _ c.significant_len-kept.ensures.value (omega (arith, length-append c.args.decimal.now.whole.now c.args.decimal.now.fraction.now), omega arith) c.exponent_at-exponent.ensures (omega (arith, ints)) (omega (arith, ints)) c.in-None.ensures
