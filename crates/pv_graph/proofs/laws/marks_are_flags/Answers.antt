use Rattle.pv_graph.proofs.ReachingItself.{marks_right}
use Rattle.pv_graph.proofs.laws.marks_are_flags.Goals as goal

pub returns : goal.returns
returns c = marks_right
