use Rattle.std.proofs.Common.{take}
use Rattle.pv_graph.specs.Heights.{IsGreatest}
use Rattle.pv_graph.proofs.heights.greatest.Given as goal

abbrev pub invariant-loop-height : goal.invariant-loop-height
invariant-loop-height l = IsGreatest (take l.height-index l.heights) l.greatest
