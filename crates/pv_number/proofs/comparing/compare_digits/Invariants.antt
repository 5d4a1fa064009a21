use Rattle.std.proofs.Common.{◌≡◌}
use Rattle.pv_number.specs.Decimals.{digits, run}
use Rattle.pv_number.proofs.comparing.compare_digits.Given as goal

abbrev pub invariant-loop-place : goal.invariant-loop-place
invariant-loop-place l = run (digits l.a) l.skipped_a l.place ≡ run (digits l.b) l.skipped_b l.place
