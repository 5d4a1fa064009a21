-- Reading as a function: the value and the bytes after it, or how many bytes are left at the first
-- that fits nowhere.
use Rattle.std.specs.Prelude.{ℕ, ◌+◌, ◌==◌, nat_le, Result, Ok, Err}
use Rattle.std.specs.Prelude.{Bool, ◌||◌, ◌&&◌, if◌then◌else◌}
use Rattle.std.specs.Prelude.{List, [], ◌∷◌, ◌++◌, length, take, drop}
use Rattle.pv_number.specs.Scanning.{◌>>=◌, number_len}
use Rattle.pv_json_grammar.specs.Bytes.{space, tab, line_feed, carriage_return}

-- what reading gives
abbrev pub Reads : Type 0 → Type 0
Reads A = Result (A × List ℕ) ℕ

-- what is read, behind what was there before
abbrev pub onto : List ℕ → Reads (List ℕ) → Reads (List ℕ)
onto old r = r >>= λ x. Ok (old ++ x.0, x.1)

-- a byte of this range
unfoldable pub byte_in : ℕ → ℕ → List ℕ → Reads ℕ
byte_in lo hi [] = Err 0
byte_in lo hi (b ∷ bs) =
    if nat_le lo b && nat_le b hi then Ok (b, bs) else Err (length bs + 1)

-- behind this byte
unfoldable pub past : ℕ → List ℕ → Result (List ℕ) ℕ
past w [] = Err 0
past w (b ∷ bs) = if b == w then Ok bs else Err (length bs + 1)

-- behind these bytes
unfoldable pub after : List ℕ → List ℕ → Result (List ℕ) ℕ
after [] bs = Ok bs
after (w ∷ ws) [] = Err 0
after (w ∷ ws) (b ∷ bs) = if b == w then after ws bs else Err (length bs + 1)

-- space, tab, line feed, carriage return
abbrev pub is_blank : ℕ → Bool
is_blank b = b == space || b == tab || b == line_feed || b == carriage_return

-- behind the white space
unfoldable pub skip : List ℕ → List ℕ
skip [] = []
skip (b ∷ bs) = if is_blank b then skip bs else b ∷ bs

-- the spelling of a number
unfoldable pub number : List ℕ → Reads (List ℕ)
number bs = number_len bs >>= λ n. Ok (take n bs, drop n bs)
