use Rattle.pv_graph.proofs.LongestWalks.{AreHeightsTo}
use Rattle.pv_graph.proofs.heights.are_heights.Given as goal

abbrev pub invariant-loop-node : goal.invariant-loop-node
invariant-loop-node l = AreHeightsTo l.graph l.heights l.node
