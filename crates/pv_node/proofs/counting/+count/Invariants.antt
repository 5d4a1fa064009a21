use Rattle.std.proofs.Common.{◌≡◌, ◌+◌, drop}
use Rattle.pv_node.specs.Places.{slots_of}
use Rattle.pv_node.specs.Preorder.{node_count, slots_count}
use Rattle.pv_node.proofs.counting.+count.Given as goal

abbrev pub decreases-count_nodes : goal.decreases-count_nodes
decreases-count_nodes l = node_count l.node.now

abbrev pub invariant-loop-place : goal.invariant-loop-place
invariant-loop-place l = l.total + slots_count (drop l.place (slots_of l.node)) ≡ node_count l.node
