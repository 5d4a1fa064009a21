use Rattle.std.proofs.Common.{◌≡◌}
use Rattle.pv_number.specs.Decimals.{digits, run}
use Rattle.pv_number.proofs.decimal.Decimal.leading_zeros.Given as goal

abbrev pub invariant-loop-place : goal.invariant-loop-place
invariant-loop-place l = run (digits l.self) 0 l.place ≡ 0
