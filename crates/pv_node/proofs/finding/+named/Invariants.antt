use Rattle.std.proofs.Common.{◌-◌, length}
use Rattle.pv_node.specs.Places.{slots_of}
use Rattle.pv_node.specs.Preorder.{node_count}
use Rattle.pv_node.specs.References.{has_name}
use Rattle.pv_node.proofs.Found.{Left}
use Rattle.pv_node.proofs.finding.+named.Given as goal

abbrev pub decreases-first_named : goal.decreases-first_named
decreases-first_named l = node_count l.node.now

abbrev pub decreases-loop-slot : goal.decreases-loop-slot
decreases-loop-slot l = length (slots_of l.node) - l.place

abbrev pub invariant-loop-slot : goal.invariant-loop-slot
invariant-loop-slot l = Left (has_name l.name) l.node l.place
