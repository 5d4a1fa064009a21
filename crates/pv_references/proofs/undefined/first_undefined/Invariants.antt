use Rattle.std.proofs.Common.{◌≡◌, drop}
use Rattle.pv_node.specs.Preorder.{first_in}
use Rattle.pv_references.specs.Names.{undefined_at}
use Rattle.pv_references.specs.Nodes.{nodes_lent}
use Rattle.pv_references.proofs.undefined.first_undefined.Given as goal

abbrev pub invariant-loop-place : goal.invariant-loop-place
invariant-loop-place l = first_in (undefined_at l.names) (nodes_lent (drop l.place l.nodes)) ≡ first_in (undefined_at l.names) (nodes_lent l.nodes)
