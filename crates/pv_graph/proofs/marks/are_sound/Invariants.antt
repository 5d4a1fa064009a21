use Rattle.pv_graph.proofs.MarkedCycles.{AreSoundTo}
use Rattle.pv_graph.proofs.marks.are_sound.Given as goal

abbrev pub invariant-loop-node : goal.invariant-loop-node
invariant-loop-node l = AreSoundTo l.graph l.marks l.node
