-- The chain of a schema without empty cycles.
use Rattle.std.proofs.Common.{◌≡◌, [], refl}
use Rattle.pv_graph.specs.Reaching.{chain_of}
use Rattle.pv_graph.specs.Walks.{IsLongest}
use Rattle.pv_graph.proofs.Chains.{acyclic_right}
use Rattle.pv_node.specs.declared.Node.{Node}
use Rattle.pv_references.specs.Cycles.{chain, cycle_names}
use Rattle.pv_references.specs.Edges.{graph_of}
use Rattle.pv_references.proofs.Circling.{cycles_named}

pub chain_is_most : (root : Node) → cycle_names root ≡ [] → IsLongest (graph_of root) (chain root)
unfolding chain
chain_is_most root none =
    ((acyclic_right (graph_of root) (chain_of (graph_of root))).1 (cycles_named root none, refl)).longest
