-- How whole numbers stand in texts, apart from how they are found there.
use Rattle.std.specs.Prelude.{◌≡◌, ℕ, ◌<◌, ◌⊎◌, List, [], ◌∷◌, ◌++◌, length, ℤ, IsTrue}
use Rattle.std.specs.List.{concat, join_with_byte, list_all}
use Rattle.pv_number.specs.Scanning.{begins}
use Rattle.pv_number.specs.Grammar.{IsSign, SomeDigits}
use Rattle.pv_number.specs.ExactNumber.{natural, signed}
use Rattle.pv_numeric.specs.NumericStrings.{is_zero}

-- each group is one digit or more
abbrev pub AllGroups : List (List ℕ) → Type 0
AllGroups [] = Unit {0}
AllGroups (ds ∷ dss) = SomeDigits ds × AllGroups dss

-- nothing, or a point and any number of zeros
abbrev pub IsZeroFraction : List ℕ → Type 0
IsZeroFraction t =
    (t ≡ []) ⊎ ((zeros : List ℕ) × (t ≡ 46 ∷ zeros) × IsTrue (list_all is_zero zeros))

-- a sign or none, groups of digits with an underscore between each two, and a fraction of zeros
pub record IsNumeral (text : List ℕ) (n : ℤ) : Type 0 where
  pub sign : List ℕ
  pub groups : List (List ℕ)
  pub fraction : List ℕ
  pub parts : text ≡ sign ++ (join_with_byte 95 groups ++ fraction)
  pub is_sign : IsSign sign
  pub some_group : 0 < length groups
  pub digits : AllGroups groups
  pub is_fraction : IsZeroFraction fraction
  pub value : n ≡ signed (begins 45 sign) (natural (concat groups))
