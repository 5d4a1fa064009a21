-- Files by their names: a list of pairs of a name and content, in which the first pair of a name
-- counts. Where a shelf does not tell what it holds, there is no such list.
use Rattle.std.specs.Prelude.{◌≡◌, ℕ, ◌<◌, ◌≤◌, if◌then◌else◌, List, [], ◌∷◌, length, Option, Some, None, IsSomeAnd, bytes_eq}

-- the content of the file of this name, if there is one
unfoldable pub file : List (List ℕ × List ℕ) → List ℕ → Option (List ℕ)
file [] name = None
file (f ∷ fs) name = if bytes_eq name f.0 then Some f.1 else file fs name

-- what is held is told, and no file has the name
abbrev pub IsMissing : Option (List (List ℕ × List ℕ)) → List ℕ → Type 0
IsMissing None name = ⊥
IsMissing (Some files) name = file files name ≡ None

-- what is held is told, and the file of the name has at most so many bytes
abbrev pub HoldsUpTo : Option (List (List ℕ × List ℕ)) → List ℕ → ℕ → Type 0
HoldsUpTo None name limit = ⊥
HoldsUpTo (Some files) name limit = IsSomeAnd (file files name) (λ bytes. length bytes ≤ limit)

-- what is held is told, and the file of the name has more bytes
abbrev pub HoldsMoreThan : Option (List (List ℕ × List ℕ)) → List ℕ → ℕ → Type 0
HoldsMoreThan None name limit = ⊥
HoldsMoreThan (Some files) name limit = IsSomeAnd (file files name) (λ bytes. limit < length bytes)
