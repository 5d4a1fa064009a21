use Rattle.std.proofs.Common.{◌≡◌, ◌++◌, drop}
use Rattle.pv_references.specs.Cycles.{named_marked}
use Rattle.pv_references.specs.Nodes.{nodes_lent}
use Rattle.pv_references.proofs.circles.marked_names.Given as goal

abbrev pub invariant-loop-place : goal.invariant-loop-place
invariant-loop-place l = l.names.items ++ named_marked (drop l.place l.flags) (nodes_lent (drop l.place l.nodes)) ≡ named_marked l.flags (nodes_lent l.nodes)
