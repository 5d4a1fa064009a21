-- The grammar of numbers (RFC 8259, section 6), apart from the scanner: which bytes are a number.
use Rattle.std.specs.Prelude.{◌≡◌, ◌≢◌, ℕ, ◌<◌, ◌==◌, ◌||◌, Bool, false, IsTrue, List, [], ◌∷◌, ◌++◌, length, ◌⊎◌}
use Rattle.pv_number.specs.Scanning.{is_digit}

-- each byte is a digit
abbrev pub AllDigits : List ℕ → Type 0
AllDigits [] = Unit {0}
AllDigits (b ∷ bs) = IsTrue (is_digit b) × AllDigits bs

-- one digit or more
abbrev pub SomeDigits : List ℕ → Type 0
SomeDigits ds = AllDigits ds × (0 < length ds)

-- a minus, or nothing
abbrev pub IsMinus : List ℕ → Type 0
IsMinus t = (t ≡ []) ⊎ (t ≡ 45 ∷ [])

-- a minus, a plus, or nothing
abbrev pub IsSign : List ℕ → Type 0
IsSign t = (t ≡ []) ⊎ ((t ≡ 45 ∷ []) ⊎ (t ≡ 43 ∷ []))

-- no leading zero
abbrev pub IsIntegerPart : List ℕ → Type 0
IsIntegerPart t =
    (t ≡ 48 ∷ []) ⊎ ((b : ℕ) × (bs : List ℕ) × (t ≡ b ∷ bs) × (b ≢ 48) × IsTrue (is_digit b)
    × AllDigits bs)

-- nothing, or a point and one digit or more
abbrev pub IsFraction : List ℕ → Type 0
IsFraction t = (t ≡ []) ⊎ ((ds : List ℕ) × (t ≡ 46 ∷ ds) × SomeDigits ds)

-- nothing, or the letter of an exponent, a sign or none, and one digit or more
abbrev pub IsExponent : List ℕ → Type 0
IsExponent t =
    (t ≡ []) ⊎ ((e : ℕ) × (s : List ℕ) × (ds : List ℕ) × (t ≡ e ∷ s ++ ds) × ((e ≡ 101) ⊎ (e ≡ 69))
    × IsSign s × SomeDigits ds)

-- a minus or none, a whole part, a fraction or none, and an exponent or none
pub record IsNumber (text : List ℕ) : Type 0 where
  pub minus : List ℕ
  pub whole : List ℕ
  pub fraction : List ℕ
  pub exponent : List ℕ
  pub parts : text ≡ minus ++ (whole ++ (fraction ++ exponent))
  pub is_minus : IsMinus minus
  pub is_whole : IsIntegerPart whole
  pub is_fraction : IsFraction fraction
  pub is_exponent : IsExponent exponent

-- a number may end before these bytes
abbrev pub goes_on : ℕ → Bool
goes_on b = is_digit b || (b == 46 || (b == 101 || b == 69))

-- nothing follows that could go on with a number
abbrev pub Stops : List ℕ → Type 0
Stops [] = Unit {0}
Stops (b ∷ bs) = goes_on b ≡ false
