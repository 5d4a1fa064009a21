-- What a contract sees of a shelf in memory.
use Rattle.std.specs.Prelude.{ℕ, List, [], map, drop, Option, Some, None, string_bytes, slice_get}
use Rattle.std.specs.declared.string.String.{String}

-- the files with their names, the bytes left of the picked one, and the counts; `calls` is the
-- number of the next pick or read, and `failing` has the numbers of those that will fail
pub record MemShelfState : Type 0 where
  pub held : List (List ℕ × List ℕ)
  pub rest : List ℕ
  pub given : ℕ
  pub faults : ℕ
  pub piece : ℕ
  pub calls : ℕ
  pub failing : List ℕ

module _ {A : Type 0} where
  -- the files by their names' bytes
  abbrev pub held_in : List (String A × List ℕ) → List (List ℕ × List ℕ)
  held_in es = map (λ e. (string_bytes e.0, e.1)) es

  abbrev pub content_of : Option (String A × List ℕ) → List ℕ
  content_of None = []
  content_of (Some e) = e.1

  -- the content of the file at this place
  abbrev pub content_at : List (String A × List ℕ) → ℕ → List ℕ
  content_at es i = content_of (slice_get es i)

  -- what is left of the file at the picked place, from the position on
  abbrev pub rest_in : List (String A × List ℕ) → Option ℕ → ℕ → List ℕ
  rest_in es None position = []
  rest_in es (Some i) position = drop position (content_at es i)
