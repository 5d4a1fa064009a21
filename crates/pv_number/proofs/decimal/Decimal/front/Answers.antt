use Rattle.std.proofs.Common.{arith}
use Rattle.pv_number.proofs.Runs.{front_whole}
use Rattle.pv_number.proofs.decimal.Decimal.front.Goals as goal

pub returns : goal.returns
returns c = front_whole _ c.loop-place.place _ _ (omega arith) c.loop-place.invariant.0 c.loop-place.invariant.1
