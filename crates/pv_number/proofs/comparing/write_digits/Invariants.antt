use Rattle.std.proofs.Common.{◌≡◌, ◌+◌, ◌-◌, ◌*◌, ◌^◌, ◌<◌, ◌≤◌, length, drop}
use Rattle.pv_number.specs.ExactNumber.{natural}
use Rattle.pv_number.proofs.comparing.write_digits.Given as goal

abbrev pub decreases-loop-rest : goal.decreases-loop-rest
decreases-loop-rest l = l.rest

abbrev pub invariant-loop-rest : goal.invariant-loop-rest
invariant-loop-rest l = (l.start ≤ length l.buffer) × (l.rest < 10 ^ l.start) × (l.value ≡ l.rest * 10 ^ (length l.buffer - l.start) + natural (drop l.start l.buffer))
