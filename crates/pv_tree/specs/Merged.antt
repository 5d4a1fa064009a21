-- What merging is of the whole list of members.
use Rattle.std.specs.Prelude.{ℕ, not, if◌then◌else◌, List, [], ◌∷◌, filter, bytes_eq, Option, None, Some}

-- each name once, in the order of the first places
abbrev pub first_names : List (List ℕ) → List (List ℕ)
first_names [] = []
first_names (n ∷ ns) = n ∷ filter (λ x. not (bytes_eq x n)) (first_names ns)

-- the first, and where there is none the other
abbrev pub or_else : {V : Type 0} → Option V → Option V → Option V
or_else None other = other
or_else (Some v) other = Some v

module _ {V : Type 0} where
  -- the value of the first member of this name
  abbrev pub value_at : List (List ℕ × V) → List ℕ → Option V
  value_at [] name = None
  value_at (m ∷ ms) name = if bytes_eq name m.0 then Some m.1 else value_at ms name

  -- the value of the last member of this name
  abbrev pub last_value : List (List ℕ × V) → List ℕ → Option V
  last_value [] name = None
  last_value (m ∷ ms) name =
      or_else (last_value ms name) (if bytes_eq name m.0 then Some m.1 else None)
