use Rattle.std.proofs.Common.{subst, true, refl}
use Rattle.std.specs.List.{Contains}
use Rattle.pv_graph.proofs.MarkedCycles.{flags_tell, some_true}
use Rattle.pv_graph.proofs.cycles.nodes_of.Goals as goal

pub returns : goal.returns
returns c = flags_tell c.args.graph.now c.args.marks.now (c.if-not-are_sound.ensures refl) c.in_ok-nodes.nodes.items c.in_ok-nodes.ensures
    (subst (λ bs. Contains bs true) c.deref.ensures.value (some_true c.deref.result.now c.if-not-contains.ensures.cases))
