-- Which trees a JSON document can spell, apart from its bytes.
use Rattle.std.specs.Prelude.{ℕ, zero, suc, List, ⊤, All, IsUtf8}
use Rattle.pv_number.specs.Grammar.{IsNumber}
use Rattle.pv_tree.specs.declared.Tree.{Tree, out-Tree}
use Rattle.pv_tree.specs.declared.Tree.TheOpen.{Tree-F}

-- one level, by what holds of the items of an array and of the members of an object
abbrev pub IsLevel : (List Tree → Type 0) → (List (List ℕ × Tree) → Type 0) → Tree-F Tree → Type 0
IsLevel items members Tree-F.Null = ⊤
IsLevel items members (Tree-F.Bool b) = ⊤
IsLevel items members (Tree-F.Num lexeme) = IsNumber lexeme
IsLevel items members (Tree-F.Str text) = IsUtf8 text
IsLevel items members (Tree-F.Array ts) = items ts
IsLevel items members (Tree-F.Object d) = members d.members

-- members whose names are UTF-8 texts and whose values are of Inner
abbrev pub AreMembers : (Tree → Type 0) → List (List ℕ × Tree) → Type 0
AreMembers Inner ms = All (λ m. IsUtf8 m.0 × Inner m.1) ms

-- a tree in which at most so many containers nest
unfoldable pub IsDocumentTree : ℕ → Tree → Type 0
IsDocumentTree zero t = IsLevel (λ ts. ⊥) (λ ms. ⊥) (out-Tree t)
IsDocumentTree (suc n) t =
    IsLevel (All (IsDocumentTree n)) (AreMembers (IsDocumentTree n)) (out-Tree t)
