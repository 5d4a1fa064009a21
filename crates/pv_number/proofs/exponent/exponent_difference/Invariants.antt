use Rattle.std.proofs.Common.{◌≡◌, ◌-◌, ◌-ℤ◌, ◌≤ℤ◌, neg_ℤ, pos, length}
use Rattle.pv_number.specs.ExactNumber.{signed}
use Rattle.pv_number.specs.Decimals.{capped, far, run}
use Rattle.pv_number.proofs.exponent.exponent_difference.Given as goal

abbrev pub decreases-loop-rank : goal.decreases-loop-rank
decreases-loop-rank l = l.rank

abbrev pub invariant-loop-rank : goal.invariant-loop-rank
invariant-loop-rank l = (neg_ℤ (pos far) ≤ℤ l.difference) × (l.difference ≤ℤ pos far) × (l.difference ≡ capped (signed l.a.negative (run l.a.digits.now 0 (length l.a.digits.now - l.rank)) -ℤ signed l.b.negative (run l.b.digits.now 0 (length l.b.digits.now - l.rank))))
