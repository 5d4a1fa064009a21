use Rattle.std.proofs.Common.{◌≡◌, false, drop}
use Rattle.pv_numeric.proofs.Digits.{groups_on}
use Rattle.pv_numeric.proofs.numeric_strings.is_grouped.Given as goal

abbrev pub invariant-loop-byte : goal.invariant-loop-byte
invariant-loop-byte l = groups_on l.follows_digit (drop l.byte-index l.digits) ≡ groups_on false l.digits
