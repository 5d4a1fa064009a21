use Rattle.std.proofs.Common.{◌≡◌, ◌≤◌, ◌-◌, ◌*◌, ◌^◌, length}
use Rattle.pv_number.specs.ExactNumber.{natural}
use Rattle.pv_number.specs.Decimals.{digits, run}
use Rattle.pv_number.proofs.decimal.Decimal.significant_len.Given as goal

abbrev pub decreases-loop-kept : goal.decreases-loop-kept
decreases-loop-kept l = l.kept

abbrev pub invariant-loop-kept : goal.invariant-loop-kept
invariant-loop-kept l = (l.kept ≤ length (digits l.self)) × (natural (digits l.self) ≡ run (digits l.self) 0 l.kept * 10 ^ (length (digits l.self) - l.kept))
