use Rattle.pv_graph.proofs.Chains.{acyclic_right}
use Rattle.pv_graph.proofs.laws.acyclic_is_told.Goals as goal

pub returns : goal.returns
returns c = acyclic_right
