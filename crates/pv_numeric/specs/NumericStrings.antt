-- Texts that stand for whole numbers. White space around the number does not count. Behind a
-- sign, which may be left out, stand digits, with single underscores between digits as one likes,
-- and behind them perhaps a point and zeros, of which there may be none.
use Rattle.std.specs.Prelude.{ℕ, Bool, false, ◌&&◌, ◌==◌, if◌then◌else◌, List, [], ◌∷◌, ℤ, Option, None, Some}
use Rattle.std.specs.List.{before_first, after_first, list_all, filter, slice_split}
use Rattle.std.specs.Str.{trim}
use Rattle.pv_number.specs.Scanning.{is_digit, begins}
use Rattle.pv_number.specs.ExactNumber.{natural, signed, is_point, without_sign}
use Rattle.pv_number.specs.declared.Whole.{Whole}
use Rattle.pv_numeric.specs.WholeNumbers.{whole_by}

-- the byte that may stand between digits
abbrev pub is_underscore : ℕ → Bool
is_underscore b = b == 95

-- the digit 0
abbrev pub is_zero : ℕ → Bool
is_zero b = b == 48

-- one digit or more
abbrev pub is_some_digits : List ℕ → Bool
is_some_digits [] = false
is_some_digits (b ∷ bs) = is_digit b && list_all is_digit bs

-- each part between underscores is one digit or more
unfoldable pub is_grouped : List ℕ → Bool
is_grouped ds = list_all is_some_digits (slice_split is_underscore ds)

-- what stands between the sign and the point, or the end where there is no point
abbrev pub before_point : List ℕ → List ℕ
before_point text = before_first is_point (without_sign text)

-- what stands behind the point; nothing where there is none
abbrev pub behind_point : List ℕ → List ℕ
behind_point text = after_first is_point (without_sign text)

-- groups of digits, and behind a point zeros alone
abbrev pub is_numeric : List ℕ → Bool
is_numeric text = is_grouped (before_point text) && list_all is_zero (behind_point text)

-- the digits form the number
abbrev pub numeric_value : List ℕ → ℤ
numeric_value text = signed (begins 45 text) (natural (filter is_digit (before_point text)))

-- the number of a text without white space around it, where it has the form
abbrev pub number_in : List ℕ → Option Whole
number_in text = if is_numeric text then Some (whole_by (numeric_value text)) else None

-- the whole number that a text stands for, where it stands for one
unfoldable pub numeric_string : List ℕ → Option Whole
numeric_string text = number_in (trim text)
