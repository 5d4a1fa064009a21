-- A text as a JSON string. A character above U+007F stands for itself, and so does each of its
-- bytes.
use Rattle.std.specs.Prelude.{ℕ, ◌+◌, ◌/◌, ◌%◌, if◌then◌else◌, ◌==◌, nat_lt, List, [], ◌∷◌, ◌++◌, codes}
use Rattle.std.specs.List.{flat_map}

-- a hexadecimal digit in lower case
abbrev pub hex_digit : ℕ → ℕ
hex_digit d = if nat_lt d 10 then d + 48 else d + 87

-- two of them
abbrev pub hex_byte : ℕ → List ℕ
hex_byte b = hex_digit (b / 16) ∷ hex_digit (b % 16) ∷ []

-- the letter behind a backslash of the characters that have one, and 0 for all others
unfoldable pub short_escape : ℕ → ℕ
short_escape b =
    if b == 34 then 34 else
    (if b == 92 then 92 else
    (if b == 8 then 98 else
    (if b == 12 then 102 else
    (if b == 10 then 110 else
    (if b == 13 then 114 else
    (if b == 9 then 116 else 0))))))

-- a byte as it stands between quotes
unfoldable pub escaped : ℕ → List ℕ
escaped b =
    if short_escape b == 0 then (if nat_lt b 32 then codes "\\u00" ++ hex_byte b else b ∷ [])
    else 92 ∷ short_escape b ∷ []

-- between quotes
abbrev pub quoted : List ℕ → List ℕ
quoted bytes = 34 ∷ flat_map escaped bytes ++ 34 ∷ []
