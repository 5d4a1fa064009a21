-- The nodes that have names, and the places that references lead to.
use Rattle.std.specs.Prelude.{ℕ, Bool, false, List, bytes_eq, Option, None, Some}
use Rattle.std.specs.List.{find}
use Rattle.pv_node.specs.declared.node.Node.{Node, out-Node}
use Rattle.pv_node.specs.Places.{Place, places}

-- whether there is a name, and it is this one
abbrev pub is_name : List ℕ → Option (List ℕ) → Bool
is_name name None = false
is_name name (Some own) = bytes_eq name own

-- whether a node has this name
abbrev pub has_name : List ℕ → Node → Bool
has_name name n = is_name name (out-Node n).own_ref

-- the first place of a schema whose node has this name
unfoldable pub place_named : Node → List ℕ → Option Place
place_named root name = find (λ place. has_name name place.node) (places root)
