-- Names with what belongs to them.
use Rattle.std.specs.Prelude.{ℕ, List, Option}
use Rattle.std.specs.BTreeMap.{is_at}
use Rattle.std.specs.Map.{lookup}
use Rattle.pv_tree.specs.Merging.{name_cmp}

-- what stands under a name
abbrev pub value_under : {X : Type 0} → List ℕ → List (List ℕ × X) → Option X
value_under name ms = lookup (is_at (name_cmp name)) ms
