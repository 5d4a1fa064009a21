-- What a schema does without entering the input: which of its nodes lead back to themselves, and
-- how far it goes where none does.
use Rattle.std.specs.Prelude.{ℕ, Bool, true, false, List, [], ◌∷◌, Option, None, Some}
use Rattle.pv_graph.specs.Reaching.{flags_of, chain_of}
use Rattle.pv_node.specs.declared.Node.{Node, out-Node}
use Rattle.pv_node.specs.Preorder.{preorder}
use Rattle.pv_references.specs.Names.{with_name}
use Rattle.pv_references.specs.Edges.{graph_of}

-- what is there, if a flag is true
abbrev pub marked_by : {X : Type 0} → Bool → Option X → Option X
marked_by true o = o
marked_by false o = None

-- the same where there may be a flag
abbrev pub marked_at : {X : Type 0} → Option Bool → Option X → Option X
marked_at None o = None
marked_at (Some flag) o = marked_by flag o

-- the names of those nodes whose flag is true, the flags standing in the order of the nodes
abbrev pub named_marked : List Bool → List Node → List (List ℕ)
named_marked flags [] = []
named_marked [] (n ∷ ns) = []
named_marked (flag ∷ flags) (n ∷ ns) =
    with_name (marked_by flag (out-Node n).own_ref) (named_marked flags ns)

-- the names of the nodes that lead back to themselves without entering the input
unfoldable pub cycle_names : Node → List (List ℕ)
cycle_names root = named_marked (flags_of (graph_of root)) (preorder root)

-- the most edges in a row that do not enter the input
unfoldable pub chain : Node → ℕ
chain root = chain_of (graph_of root)
