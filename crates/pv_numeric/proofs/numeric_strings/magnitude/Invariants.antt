use Rattle.std.proofs.Common.{◌≡◌, ◌<◌, ◌^◌, drop}
use Rattle.pv_numeric.proofs.Digits.{value_after}
use Rattle.pv_numeric.proofs.numeric_strings.magnitude.Given as goal

abbrev pub invariant-loop-byte : goal.invariant-loop-byte
invariant-loop-byte l = (value_after l.value (drop l.byte-index l.digits) ≡ value_after 0 l.digits) × (l.value < 2 ^ 128)
