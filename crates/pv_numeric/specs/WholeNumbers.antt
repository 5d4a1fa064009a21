-- The whole number that a spelling stands for, where it stands for one.
use Rattle.std.specs.Prelude.{ℕ, suc, ◌+◌, ◌/◌, ◌%◌, ◌^◌, ◌==◌, if◌then◌else◌, List, ℤ, pos, negsuc, neg_ℤ, ◌*ℤ◌, Option, None, Some}
use Rattle.pv_number.specs.ExactNumber.{number}
use Rattle.pv_number.specs.WrittenIntegers.{is_i128}
use Rattle.pv_number.specs.declared.Whole.{Whole}
use Rattle.pv_number.specs.declared.Whole.TheVariants.{Fits, TooBig, Fraction}

-- n over p, where p goes into n without a remainder
abbrev pub quotient : ℤ → ℕ → Option ℤ
quotient (pos n) p = if n % p == 0 then Some (pos (n / p)) else None
quotient (negsuc n) p = if suc n % p == 0 then Some (neg_ℤ (pos (suc n / p))) else None

-- m times ten to the e, where that is whole
abbrev pub times_ten_to : ℤ → ℤ → Option ℤ
times_ten_to m (pos e) = Some (m *ℤ pos (10 ^ e))
times_ten_to m (negsuc e) = quotient m (10 ^ (e + 1))

-- a whole number, by whether it fits 128 bits
abbrev pub whole_by : ℤ → Whole
whole_by n = if is_i128 n then Fits n else TooBig

-- a whole number, or that there is none
abbrev pub whole_or_fraction : Option ℤ → Whole
whole_or_fraction (Some n) = whole_by n
whole_or_fraction None = Fraction

-- what the spelling of a number is
unfoldable pub whole_of : List ℕ → Whole
whole_of lexeme =
    whole_or_fraction (times_ten_to (number lexeme).significand (number lexeme).exponent)
