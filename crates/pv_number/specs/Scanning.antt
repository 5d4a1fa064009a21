-- How far a JSON number reaches from the front of a list of bytes: its length, or how many bytes
-- are left where it breaks off.
use Rattle.std.specs.Prelude.{ℕ, ◌+◌, ◌-◌, Bool, false, ◌||◌, ◌&&◌, if◌then◌else◌, ◌==◌, nat_le, List, [], ◌∷◌, length, drop, Result, Ok, Err}

-- from 0 to 9 in ASCII
abbrev pub is_digit : ℕ → Bool
is_digit b = nat_le 48 b && nat_le b 57

-- how many digits stand at the front
unfoldable pub digits : List ℕ → ℕ
digits [] = 0
digits (b ∷ bs) = if is_digit b then digits bs + 1 else 0

-- whether this byte stands first
abbrev pub begins : ℕ → List ℕ → Bool
begins w [] = false
begins w (b ∷ bs) = b == w

-- what follows a length that was found; a place where the number breaks off stays
infixl 10 ◌>>=◌
abbrev pub ◌>>=◌ : {A B : Type 0} → Result A ℕ → (A → Result B ℕ) → Result B ℕ
(Ok x) >>= f = f x
(Err e) >>= f = Err e

-- one digit or more, behind n bytes
abbrev pub some_digits : ℕ → List ℕ → Result ℕ ℕ
some_digits n bs =
    if digits (drop n bs) == 0 then Err (length bs - n) else Ok (digits (drop n bs) + n)

-- how many bytes a minus takes at the front: one, or none where there is none
unfoldable pub minus_len : List ℕ → ℕ
minus_len bs = if begins 45 bs then 1 else 0

-- the same of a minus or a plus
unfoldable pub sign_len : List ℕ → ℕ
sign_len bs = if begins 45 bs || begins 43 bs then 1 else 0

-- no digit follows a leading zero
unfoldable pub whole_len : List ℕ → Result ℕ ℕ
whole_len bs = if begins 48 bs then Ok 1 else some_digits 0 bs

-- how many bytes a fraction takes: none where there is no point
unfoldable pub fraction_len : List ℕ → Result ℕ ℕ
fraction_len bs = if begins 46 bs then some_digits 1 bs else Ok 0

-- how many bytes an exponent takes: none where there is no letter for one
unfoldable pub exponent_len : List ℕ → Result ℕ ℕ
exponent_len bs =
    if begins 101 bs || begins 69 bs then some_digits (sign_len (drop 1 bs) + 1) bs else Ok 0

-- how many bytes a number takes at the front: those of its four parts
unfoldable pub number_len : List ℕ → Result ℕ ℕ
number_len bs =
    whole_len (drop (minus_len bs) bs) >>= λ w.
    fraction_len (drop (minus_len bs + w) bs) >>= λ f.
    exponent_len (drop (minus_len bs + w + f) bs) >>= λ e.
    Ok (minus_len bs + w + f + e)

-- whether what is found takes this many bytes
abbrev pub reaches : ℕ → Result ℕ ℕ → Bool
reaches n (Ok m) = m == n
reaches n (Err e) = false

-- all of the bytes are one number
unfoldable pub is_number : List ℕ → Bool
is_number bs = reaches (length bs) (number_len bs)
