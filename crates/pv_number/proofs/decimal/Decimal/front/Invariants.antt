use Rattle.std.proofs.Common.{◌≡◌, ◌<◌, ◌^◌}
use Rattle.pv_number.specs.Decimals.{digits, run}
use Rattle.pv_number.proofs.decimal.Decimal.front.Given as goal

abbrev pub invariant-loop-place : goal.invariant-loop-place
invariant-loop-place l = (l.value < 2 ^ 128) × (l.value ≡ run (digits l.self) 0 l.place)
