-- Integers that are written without a point and an exponent.
use Rattle.std.specs.Prelude.{ℕ, ◌^◌, Bool, ◌&&◌, nat_lt, if◌then◌else◌, List, ℤ, pos, negsuc, Option, Some, None}
use Rattle.pv_number.specs.ExactNumber.{number, is_integer}

-- it fits 128 bits with a sign
abbrev pub is_i128 : ℤ → Bool
is_i128 (pos n) = nat_lt n (2 ^ 127)
is_i128 (negsuc n) = nat_lt n (2 ^ 127)

-- the integer that stands there, where it fits 128 bits
unfoldable pub integer : List ℕ → Option ℤ
integer bs =
    if is_integer bs && is_i128 (number bs).significand then Some (number bs).significand else None
