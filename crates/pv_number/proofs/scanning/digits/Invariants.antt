use Rattle.std.proofs.Common.{◌≡◌, ◌+◌, drop}
use Rattle.pv_number.specs.Scanning as spec
use Rattle.pv_number.proofs.scanning.digits.Given as goal

abbrev pub invariant-loop-b : goal.invariant-loop-b
invariant-loop-b l = (l.n ≡ l.b-index) × (l.n + spec.digits (drop l.b-index l.s) ≡ spec.digits l.s)
