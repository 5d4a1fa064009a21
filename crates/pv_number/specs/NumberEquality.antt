-- When two numbers are equal, and their order. Both are brought to the lesser of the two exponents.
use Rattle.std.specs.Prelude.{◌≡◌, ◌^◌, ℤ, pos, ◌-ℤ◌, ◌*ℤ◌, unsigned_abs}
use Rattle.std.specs.Int.{int_min}
use Rattle.std.specs.Ordering.{int_cmp}
use Rattle.std.specs.declared.cmp.Ordering.{Ordering}
use Rattle.pv_number.specs.ExactNumber.{Number}

-- the lesser of the two exponents
abbrev pub least_exponent : Number → Number → ℤ
least_exponent a b = int_min a.exponent b.exponent

-- the significand where the exponent is k
abbrev pub scaled : Number → ℤ → ℤ
scaled a k = a.significand *ℤ pos (10 ^ unsigned_abs (a.exponent -ℤ k))

-- two numbers are equal where their significands are, at the lesser exponent
abbrev pub IsSameNumber : Number → Number → Type 0
IsSameNumber a b = scaled a (least_exponent a b) ≡ scaled b (least_exponent a b)

-- two numbers compare as their significands do, at the lesser exponent
unfoldable pub number_cmp : Number → Number → Ordering
number_cmp a b = int_cmp (scaled a (least_exponent a b)) (scaled b (least_exponent a b))

-- a whole number stands for itself
abbrev pub int_number : ℤ → Number
int_number n = record { significand = n; exponent = pos 0 }
