use Rattle.std.proofs.Common.{arith, sym}
use Rattle.pv_number.proofs.NumberOrder.{less_from, same_from}
use Rattle.pv_number.proofs.comparing.compare_digits.Goals as goal

pub returns-then-upper-lower : goal.returns-then-upper-lower
returns-then-upper-lower c = λ n a b. less_from _ _ _ _ c.loop-place.place n (omega arith) c.loop-place.invariant (omega arith)

pub returns-then-lower-upper : goal.returns-then-lower-upper
returns-then-lower-upper c = λ n a b. less_from _ _ _ _ c.loop-place.place n (omega arith) (sym c.loop-place.invariant) (omega arith)

pub returns : goal.returns
returns c = λ n a b. same_from _ _ _ _ c.loop-place.place n (omega arith) (omega arith) (omega arith) c.loop-place.invariant
