-- The compact JSON of a tree: no white space, and lexemes as they are.
use Rattle.std.specs.Prelude.{ℕ, if◌then◌else◌, List, [], ◌∷◌, ◌++◌, map, codes}
use Rattle.pv_tree.specs.declared.Tree.{Tree, fold-Tree}
use Rattle.pv_tree.specs.declared.Tree.TheOpen.{Tree-F}
use Rattle.pv_notation.specs.Strings.{quoted}
use Rattle.pv_notation.specs.Lists.{joined, list_text}

-- a member by its name and the text of its value
abbrev pub member_text : List ℕ × List ℕ → List ℕ
member_text m = quoted m.0 ++ 58 ∷ m.1

-- one level, with the text of each tree inside in its place
abbrev pub compact_step : Tree-F (List ℕ) → List ℕ
compact_step Tree-F.Null = codes "null"
compact_step (Tree-F.Bool b) = if b then codes "true" else codes "false"
compact_step (Tree-F.Num lexeme) = lexeme
compact_step (Tree-F.Str text) = quoted text
compact_step (Tree-F.Array ts) = list_text ts
compact_step (Tree-F.Object d) = 123 ∷ joined (map member_text d.members) ++ 125 ∷ []

-- the text of a tree
abbrev pub compact : Tree → List ℕ
compact = fold-Tree (List ℕ) compact_step

-- the text of a member
abbrev pub compact_member : List ℕ × Tree → List ℕ
compact_member m = quoted m.0 ++ 58 ∷ compact m.1
