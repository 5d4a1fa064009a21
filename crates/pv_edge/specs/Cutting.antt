-- Lines of a file: where they end, and where the file or a line is too long.
use Rattle.std.specs.Prelude.{◌≡◌, ℕ, ◌+◌, ◌==◌, nat_lt, Bool, false, if◌then◌else◌, List, [], ◌∷◌, length, take, Option, Some, None, min, option_map}
use Rattle.std.specs.List.{All, slice_split}

-- the byte that ends a line
abbrev pub line_feed : ℕ
line_feed = 10

abbrev pub is_feed : ℕ → Bool
is_feed b = b == line_feed

-- no line ends in the bytes
abbrev pub HasNoFeed : List ℕ → Type 0
HasNoFeed bytes = All (λ b. is_feed b ≡ false) bytes

-- what lies between line feeds: one piece more than there are feeds
abbrev pub pieces : List ℕ → List (List ℕ)
pieces bytes = slice_split is_feed bytes

-- all pieces but the last
unfoldable pub ended : List (List ℕ) → List (List ℕ)
ended [] = []
ended (piece ∷ []) = []
ended (piece ∷ next ∷ later) = piece ∷ ended (next ∷ later)

-- all pieces but a last one that is empty
unfoldable pub filled : List (List ℕ) → List (List ℕ)
filled [] = []
filled ([] ∷ []) = []
filled ((b ∷ bs) ∷ []) = (b ∷ bs) ∷ []
filled (piece ∷ next ∷ later) = piece ∷ filled (next ∷ later)

-- the lines that a line feed ends
abbrev pub ended_lines : List ℕ → List (List ℕ)
ended_lines bytes = ended (pieces bytes)

-- these, and a last line that none ends, where it is not empty
abbrev pub all_lines : List ℕ → List (List ℕ)
all_lines bytes = filled (pieces bytes)

-- the place so many bytes further on
abbrev pub further : ℕ → Option ℕ → Option ℕ
further count place = option_map (λ at. count + at) place

-- the place of the first byte that makes a piece longer than the limit
unfoldable pub long_in : ℕ → List (List ℕ) → Option ℕ
long_in limit [] = None
long_in limit (piece ∷ later) =
    if nat_lt limit (length piece) then Some limit
    else further (length piece + 1) (long_in limit later)

-- the place of the byte that follows so many, where there is one
abbrev pub behind : ℕ → List ℕ → Option ℕ
behind count bytes = if nat_lt count (length bytes) then Some count else None

-- the first of two places
abbrev pub earlier : Option ℕ → Option ℕ → Option ℕ
earlier None other = other
earlier (Some at) None = Some at
earlier (Some at) (Some other) = Some (min at other)

-- the place of the first byte that makes a line or the file longer than its limit
abbrev pub fault_place : ℕ → ℕ → List ℕ → Option ℕ
fault_place line_limit file_limit bytes =
    earlier (long_in line_limit (pieces bytes)) (behind file_limit bytes)

-- the lines that end before a fault, and all lines where there is none
abbrev pub lines_up_to : Option ℕ → List ℕ → List (List ℕ)
lines_up_to None bytes = all_lines bytes
lines_up_to (Some place) bytes = ended_lines (take place bytes)

-- the lines of a file up to its fault, if it has one
abbrev pub lines_of : ℕ → ℕ → List ℕ → List (List ℕ)
lines_of line_limit file_limit bytes =
    lines_up_to (fault_place line_limit file_limit bytes) bytes
