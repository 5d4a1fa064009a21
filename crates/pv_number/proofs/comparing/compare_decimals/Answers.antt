use Rattle.std.proofs.Common.{arith}
use Rattle.std.proofs.lemmas.Int.{ints}
use Rattle.pv_number.proofs.NumberOrder.{less_by_sign, more_by_sign, both_zero, both_above, both_under}
use Rattle.pv_number.proofs.comparing.compare_decimals.Goals as goal

pub returns-then-sign_a-sign_b : goal.returns-then-sign_a-sign_b
returns-then-sign_a-sign_b c = less_by_sign c.args.a.now c.args.b.now (omega (arith, ints, c.sign-sign_a.ensures, c.sign-sign_b.ensures))

pub returns-then-sign_b-sign_a : goal.returns-then-sign_b-sign_a
returns-then-sign_b-sign_a c = more_by_sign c.args.a.now c.args.b.now (omega (arith, ints, c.sign-sign_a.ensures, c.sign-sign_b.ensures))

pub returns-then-sign_a-eq0 : goal.returns-then-sign_a-eq0
returns-then-sign_a-eq0 c = both_zero c.args.a.now c.args.b.now (omega (arith, ints, c.sign-sign_a.ensures)) (omega (arith, ints, c.sign-sign_a.ensures, c.sign-sign_b.ensures))

pub returns-then-sign_a-gt0 : goal.returns-then-sign_a-gt0
returns-then-sign_a-gt0 c =
    both_above c.args.a.now c.args.b.now _ (omega (arith, ints, c.sign-sign_a.ensures)) (omega (arith, ints, c.sign-sign_a.ensures, c.sign-sign_b.ensures)) c.compare_sizes.ensures

pub returns-else-sign_a-gt0 : goal.returns-else-sign_a-gt0
returns-else-sign_a-gt0 c =
    both_under c.args.a.now c.args.b.now _ (omega (arith, ints, c.sign-sign_a.ensures)) (omega (arith, ints, c.sign-sign_a.ensures, c.sign-sign_b.ensures)) c.compare_sizes-else-sign_a-gt0.ensures
