-- A number taken apart, as the code holds it.
use Rattle.std.specs.Prelude.{ℕ, zero, suc, ◌+◌, ◌*◌, List, ◌++◌, slice_index_or, length, ℤ, pos, ◌-ℤ◌, neg_ℤ, negsuc, ◌^◌, ◌<◌, ◌≡◌, ◌==◌, if◌then◌else◌}
use Rattle.std.specs.Ordering.{MatchOrdering}
use Rattle.std.specs.declared.cmp.Ordering.{Ordering}
use Rattle.std.specs.Int.{int_max, int_min}
use Rattle.pv_number.specs.ExactNumber.{Number, signed, natural, digit}
use Rattle.pv_number.specs.declared.decimal.Decimal.{Decimal}
use Rattle.pv_number.specs.declared.decimal.Exponent.{Exponent}

-- before the point and behind it
abbrev pub digits : Decimal → List ℕ
digits d = d.whole.now ++ d.fraction.now

-- the whole number that an exponent is written as
abbrev pub exponent_of : Exponent → ℤ
exponent_of e = signed e.negative (natural e.digits.now)

-- the exact number of the parts
abbrev pub number_of : Decimal → Number
number_of d = record {
  significand = signed d.negative (natural (digits d));
  exponent = exponent_of d.exponent -ℤ pos (length d.fraction.now);
}

-- the number that n digits form from place s on, where zeros stand behind the last digit
unfoldable pub run : List ℕ → ℕ → ℕ → ℕ
run ds s zero = 0
run ds s (suc n) = run ds s n * 10 + digit (slice_index_or ds (s + n) 0)

-- past this an exponent decides alone, since no list of digits is as long
abbrev pub far : ℕ
far = 2 ^ 100

-- an exponent, kept between the far ends on both sides
unfoldable pub capped : ℤ → ℤ
capped x = int_max (neg_ℤ (pos far)) (int_min x (pos far))

-- below zero, zero or above it
abbrev pub sign_of : Decimal → ℤ
sign_of d = if natural (digits d) == 0 then pos 0 else if d.negative then negsuc 0 else pos 1

-- what an answer of a comparison says of two numbers
abbrev pub Ranks : Ordering → ℕ → ℕ → Type 0
Ranks r x y = MatchOrdering r (x < y) (x ≡ y) (y < x)
