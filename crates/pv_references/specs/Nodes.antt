-- Nodes of a schema in a list.
use Rattle.std.specs.Prelude.{◌≡◌, ℕ, List, map}
use Rattle.std.specs.BTreeMap.{BTreeMap, get}
use denote.Ref.{Bor}
use Rattle.pv_tree.specs.Merging.{name_cmp}
use Rattle.pv_node.specs.declared.Node.{Node}
use Rattle.pv_references.specs.Numbers.{number_from}

-- the nodes that are lent
abbrev pub nodes_lent : List (Bor Node) → List Node
nodes_lent ns = map (λ n. n.now) ns

-- each name with the number of the first of some nodes that has it
abbrev pub IsNumbering : BTreeMap (List ℕ) ℕ → List Node → Type 0
IsNumbering numbers ns = (name : List ℕ) → get name_cmp numbers name ≡ number_from 0 name ns
