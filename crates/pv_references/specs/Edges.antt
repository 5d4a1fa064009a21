-- The edges of a schema that do not lead into the input: from a node to the child schemas that it
-- applies to its own input, and from a reference to the node that it names.
use Rattle.std.specs.Prelude.{ℕ, ◌+◌, List, [], ◌∷◌, ◌++◌, Option, None, Some}
use Rattle.pv_node.specs.declared.Edge.{Edge}
use Rattle.pv_node.specs.declared.Edge.TheVariants.{Enters, Stays, Absent}
use Rattle.pv_node.specs.declared.Node.{Node}
use Rattle.pv_node.specs.Places.{Slot, body_of, slots_of}
use Rattle.pv_node.specs.Preorder.{preorder, count_at, optional}
use Rattle.pv_references.specs.Targets.{reference_of}
use Rattle.pv_references.specs.Numbers.{number_in}

-- where an edge leads that does not enter: to the node that is written there, which has this number
abbrev pub stays_by : Edge → Option Node → ℕ → List ℕ
stays_by Enters n at = []
stays_by Absent n at = []
stays_by Stays None at = []
stays_by Stays (Some n) at = at ∷ []

-- the same of slots whose nodes stand one after another, the first at this number
abbrev pub staying : ℕ → List (Slot Node) → List ℕ
staying at [] = []
staying at (slot ∷ ss) =
    stays_by slot.edge slot.node at ++ staying (at + count_at slot.node) ss

-- where a reference leads, by the name that there may be
abbrev pub target_of : Node → Option (List ℕ) → List ℕ
target_of root None = []
target_of root (Some name) = optional (number_in root name)

-- the numbers of the nodes to which the node of a number leads without entering the input; its
-- child schemas stand behind it
abbrev pub leads_to : Node → ℕ → Node → List ℕ
leads_to root at n = staying (at + 1) (slots_of n) ++ target_of root (reference_of (body_of n))

-- the same of nodes that stand one after another, the first at this number
unfoldable pub graph_from : Node → ℕ → List Node → List (List ℕ)
graph_from root at [] = []
graph_from root at (n ∷ ns) = leads_to root at n ∷ graph_from root (at + 1) ns

-- the same of each node of a schema
unfoldable pub graph_of : Node → List (List ℕ)
graph_of root = graph_from root 0 (preorder root)
