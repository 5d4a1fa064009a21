-- The numbers of nodes by their names. The nodes of a schema are numbered from 0 in their order.
use Rattle.std.specs.Prelude.{ℕ, ◌+◌, List, [], ◌∷◌, Option, None, Some, if◌then◌else◌, unwrap_or}
use Rattle.pv_node.specs.declared.Node.{Node}
use Rattle.pv_node.specs.Preorder.{preorder}
use Rattle.pv_node.specs.References.{has_name}

-- the number of the first of some nodes that has a name; the first of them has this number
abbrev pub number_from : ℕ → List ℕ → List Node → Option ℕ
number_from at name [] = None
number_from at name (n ∷ ns) =
    if has_name name n then Some at else number_from (at + 1) name ns

-- the number of the first node of a schema that has a name
abbrev pub number_in : Node → List ℕ → Option ℕ
number_in root name = number_from 0 name (preorder root)

-- the same; where no node has the name, the number that is given for that
abbrev pub number_named : Node → ℕ → List ℕ → ℕ
number_named root last name = unwrap_or (number_in root name) last
