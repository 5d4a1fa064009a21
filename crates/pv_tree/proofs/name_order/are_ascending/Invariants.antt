use Rattle.pv_tree.proofs.Ascending.{Ascends}
use Rattle.pv_tree.proofs.name_order.are_ascending.Given as goal

abbrev pub invariant-loop-place : goal.invariant-loop-place
invariant-loop-place g l = Ascends l.order l.members l.place
