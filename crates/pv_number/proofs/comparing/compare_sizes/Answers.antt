use Rattle.std.proofs.Common.{arith}
use Rattle.std.proofs.lemmas.Int.{ints}
use Rattle.pv_number.proofs.NumberOrder.{sizes_less, sizes_more, sizes_level}
use Rattle.pv_number.proofs.comparing.compare_sizes.Goals as goal

pub returns-then-above-lt0 : goal.returns-then-above-lt0
returns-then-above-lt0 c =
    let a = c.leading_zeros-skipped_a.ensures in
    let b = c.leading_zeros-skipped_b.ensures in
    sizes_less c.args.a.now c.args.b.now _ _ _ (omega arith) (omega arith) (omega arith) (omega arith) (a.within, a.zeros, a.first) (b.within, b.zeros, b.first) c.requires.b_some c.first_difference-above.ensures (omega (arith, ints))

pub returns-then-above-gt0 : goal.returns-then-above-gt0
returns-then-above-gt0 c =
    let a = c.leading_zeros-skipped_a.ensures in
    let b = c.leading_zeros-skipped_b.ensures in
    sizes_more c.args.a.now c.args.b.now _ _ _ (omega arith) (omega arith) (omega arith) (omega arith) (a.within, a.zeros, a.first) (b.within, b.zeros, b.first) c.requires.a_some c.first_difference-above.ensures (omega (arith, ints))

pub returns : goal.returns
returns c =
    let a = c.leading_zeros-skipped_a.ensures in
    let b = c.leading_zeros-skipped_b.ensures in
    sizes_level _ c.args.a.now c.args.b.now _ _ _ (omega arith) (omega arith) (omega arith) (omega arith) (a.within, a.zeros, a.first) (b.within, b.zeros, b.first) c.first_difference-above.ensures (omega (arith, ints)) c.compare_digits.ensures
