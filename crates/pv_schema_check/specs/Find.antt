-- The member of an object that has a name, and the tree under a key.
use Rattle.std.specs.Prelude.{ℕ, if◌then◌else◌, List, [], ◌∷◌, Option, None, Some, bytes_eq}
use Rattle.std.specs.Option.{option_map}
use Rattle.pv_tree.specs.declared.Tree.{Tree}
use Rattle.pv_schema_table.specs.Keys.{text}
use Rattle.pv_schema_table.specs.declared.Key.{Key}

-- the value of the first member that has a name
abbrev pub find : {X : Type 0} → List ℕ → List (List ℕ × X) → Option X
find key [] = None
find key (m ∷ ms) = if bytes_eq key m.0 then Some m.1 else find key ms

-- a tree, which stands for itself
abbrev pub itself : Tree → Tree
itself t = t

-- the tree under a key of an object with these members, each of which stands for a tree
abbrev pub tree_at : {X : Type 0} → (X → Tree) → List (List ℕ × X) → Key → Option Tree
tree_at tree ms k = option_map tree (find (text k) ms)
