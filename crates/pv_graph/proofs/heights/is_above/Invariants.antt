use Rattle.std.proofs.Common.{take}
use Rattle.std.specs.List.{All}
use Rattle.pv_graph.specs.Heights.{IsBelow}
use Rattle.pv_graph.proofs.heights.is_above.Given as goal

abbrev pub invariant-loop-successor : goal.invariant-loop-successor
invariant-loop-successor l = All (IsBelow l.heights l.height) (take l.successor-index l.successors)
