use Rattle.std.proofs.Common.{◌≡◌, drop}
use Rattle.pv_node.specs.Preorder.{first_in}
use Rattle.pv_plan.specs.Functions.{wrong_at}
use Rattle.pv_references.specs.Nodes.{nodes_lent}
use Rattle.pv_plan.proofs.functions.first_wrong.Given as goal

abbrev pub invariant-loop-place : goal.invariant-loop-place
invariant-loop-place g l = first_in (wrong_at (g.O.Objects.functions l.objects)) (nodes_lent (drop l.place l.nodes)) ≡ first_in (wrong_at (g.O.Objects.functions l.objects)) (nodes_lent l.nodes)
