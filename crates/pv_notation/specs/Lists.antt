-- Texts with commas between them.
use Rattle.std.specs.Prelude.{ℕ, List, [], ◌∷◌, ◌++◌}
use Rattle.std.specs.List.{flat_map}

-- one behind the other
abbrev pub joined : List (List ℕ) → List ℕ
joined [] = []
joined (x ∷ xs) = x ++ flat_map (λ y. 44 ∷ y) xs

-- in brackets
abbrev pub list_text : List (List ℕ) → List ℕ
list_text xs = 91 ∷ joined xs ++ 93 ∷ []
