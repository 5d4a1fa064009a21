use Rattle.std.proofs.Common.{take}
use Rattle.std.specs.List.{All}
use Rattle.pv_graph.specs.Marks.{IsBelow}
use Rattle.pv_graph.proofs.marks.is_below_each.Given as goal

abbrev pub invariant-loop-successor : goal.invariant-loop-successor
invariant-loop-successor l = All (IsBelow l.marks l.mark) (take l.successor-index l.successors)
