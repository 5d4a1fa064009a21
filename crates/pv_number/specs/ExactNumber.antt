-- The exact value of a number's spelling: a whole number times a power of ten. Both are read off
-- the bytes, whose form is that of RFC 8259.
use Rattle.std.specs.Prelude.{◌≡◌, ℕ, ◌+◌, ◌-◌, ◌*◌, ◌^◌, ◌==◌, ◌||◌, Bool, not, if◌then◌else◌, List, [], ◌∷◌, ◌++◌, length, drop, ℤ, pos, negsuc, neg_ℤ, ◌-ℤ◌, ◌*ℤ◌, FitsSigned}
use Rattle.std.specs.Int.{w128}
use Rattle.std.specs.List.{before_first, after_first, list_all}
use Rattle.pv_number.specs.Scanning.{is_digit, begins}
use Rattle.pv_number.specs.declared.exact.Whole.{Whole}
use Rattle.pv_number.specs.declared.exact.Whole.TheVariants.{Fits, TooBig, Fraction}

-- significand times ten to the exponent
pub record Number : Type 0 where
  pub significand : ℤ
  pub exponent : ℤ

-- what a digit counts
abbrev pub digit : ℕ → ℕ
digit b = if is_digit b then b - 48 else 0

-- the number that digits form behind those of n
abbrev pub natural_after : ℕ → List ℕ → ℕ
natural_after n [] = n
natural_after n (d ∷ ds) = natural_after (n * 10 + digit d) ds

-- the number that digits form
abbrev pub natural : List ℕ → ℕ
natural ds = natural_after 0 ds

-- a number, or behind a minus its negative
abbrev pub signed : Bool → ℕ → ℤ
signed minus n = if minus then neg_ℤ (pos n) else pos n

-- the letter before an exponent, in either case
abbrev pub is_letter : ℕ → Bool
is_letter b = b == 101 || b == 69

-- the point before a fraction
abbrev pub is_point : ℕ → Bool
is_point b = b == 46

-- what stands behind a sign, where there is one
abbrev pub without_sign : List ℕ → List ℕ
without_sign t = if begins 45 t || begins 43 t then drop 1 t else t

-- what stands before the exponent, and what stands in it
abbrev pub significand_text : List ℕ → List ℕ
significand_text bs = without_sign (before_first is_letter bs)

-- what stands behind the letter of the exponent: its sign and digits
abbrev pub exponent_text : List ℕ → List ℕ
exponent_text bs = after_first is_letter bs

-- all digits form the significand, and those behind the point make the exponent less
unfoldable pub number : List ℕ → Number
number bs = record {
  significand =
      signed (begins 45 bs)
      (natural (before_first is_point (significand_text bs)
      ++ after_first is_point (significand_text bs)));
  exponent =
      signed (begins 45 (exponent_text bs)) (natural (without_sign (exponent_text bs)))
      -ℤ pos (length (after_first is_point (significand_text bs)));
}

-- n is m times ten to the e
abbrev pub IsProduct : ℤ → ℤ → ℤ → Type 0
IsProduct m (pos e) n = n ≡ m *ℤ pos (10 ^ e)
IsProduct m (negsuc e) n = m ≡ n *ℤ pos (10 ^ (e + 1))

-- the number is this whole number
abbrev pub HasValue : Number → ℤ → Type 0
HasValue a n = IsProduct a.significand a.exponent n

-- a whole number of 128 bits, a whole number past them, or no whole number
abbrev pub IsWhole : Number → Whole → Type 0
IsWhole a (Fits n) = HasValue a n × FitsSigned w128 n
IsWhole a TooBig = (n : ℤ) × HasValue a n × ¬ FitsSigned w128 n
IsWhole a Fraction = (n : ℤ) → ¬ HasValue a n

-- no point and no exponent
abbrev pub is_integer : List ℕ → Bool
is_integer bs = list_all (λ b. not (is_point b || is_letter b)) bs
