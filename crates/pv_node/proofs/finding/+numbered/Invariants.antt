use Rattle.std.proofs.Common.{◌-◌, length}
use Rattle.pv_node.specs.Places.{slots_of}
use Rattle.pv_node.specs.Preorder.{node_count}
use Rattle.pv_node.proofs.Found.{Passed}
use Rattle.pv_node.proofs.finding.+numbered.Given as goal

abbrev pub decreases-node_behind : goal.decreases-node_behind
decreases-node_behind l = node_count l.node.now

abbrev pub decreases-loop-slot : goal.decreases-loop-slot
decreases-loop-slot l = length (slots_of l.node) - l.place

abbrev pub invariant-loop-slot : goal.invariant-loop-slot
invariant-loop-slot l = Passed l.node l.fn.left l.left l.place
