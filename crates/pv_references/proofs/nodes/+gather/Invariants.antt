use Rattle.std.proofs.Common.{◌≡◌, ◌++◌}
use Rattle.pv_node.specs.Preorder.{node_count}
use Rattle.pv_references.specs.Nodes.{nodes_lent}
use Rattle.pv_references.proofs.Listed.{begun}
use Rattle.pv_references.proofs.nodes.+gather.Given as goal

abbrev pub decreases-add_nodes : goal.decreases-add_nodes
decreases-add_nodes l = node_count l.node.now

abbrev pub invariant-loop-place : goal.invariant-loop-place
invariant-loop-place l = nodes_lent l.all.items ≡ nodes_lent l.fn.all.items ++ begun l.node l.place
