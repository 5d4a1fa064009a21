-- What a directory of members keeps.
use Rattle.std.specs.Prelude.{◌≡◌, ℕ, List, Option, None, Some}
use Rattle.std.specs.BTreeMap.{BTreeMap}
use Rattle.pv_tree.specs.declared.Tree.{Tree}
use Rattle.pv_tree.specs.Merging.{IsIndex}
use Rattle.pv_tree.specs.Names.{HasDistinctNames}
use Rattle.pv_fields.specs.Finding.{members_in}

-- an index of these members, where there is one
abbrev pub IsIndexed : List (List ℕ × Tree) → Option (BTreeMap (List ℕ) ℕ) → Type 0
IsIndexed ms None = Unit {0}
IsIndexed ms (Some places) = IsIndex places ms

-- these are the members of the tree, and this is their index
pub record IsDirectory (t : Tree) (ms : List (List ℕ × Tree))
    (index : Option (BTreeMap (List ℕ) ℕ)) : Type 0 where
  pub members : ms ≡ members_in t
  pub distinct : HasDistinctNames ms
  pub indexed : IsIndexed ms index
