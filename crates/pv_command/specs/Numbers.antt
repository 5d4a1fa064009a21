-- Numbers as words: decimal digits without a leading zero, other than `0` itself.
use Rattle.std.specs.Prelude.{ℕ, Bool, false, ◌&&◌, ◌==◌, not, nat_lt, if◌then◌else◌, List, [], ◌∷◌, Option, Some, None}
use Rattle.std.specs.List.{list_all}
use Rattle.pv_number.specs.Scanning.{is_digit}
use Rattle.pv_number.specs.ExactNumber.{natural}

-- digits alone, at least one, and none after a leading zero
abbrev pub is_decimal : List ℕ → Bool
is_decimal [] = false
is_decimal (d ∷ []) = is_digit d
is_decimal (d ∷ e ∷ more) = not (d == 48) && list_all is_digit (d ∷ e ∷ more)

-- the number of a word, where it is below the bound
unfoldable pub number_below : ℕ → List ℕ → Option ℕ
number_below bound word =
    if is_decimal word && nat_lt (natural word) bound then Some (natural word) else None
