use Rattle.pv_graph.proofs.Chains.{acyclic_right}
use Rattle.pv_graph.proofs.cycles.find_cycles.Goals as goal

pub returns-in-Some-clause-answer : goal.returns-in-Some-clause-answer
returns-in-Some-clause-answer c = (acyclic_right c.args.graph.now c.in-Some.longest).0 c.in-Some.ensures
