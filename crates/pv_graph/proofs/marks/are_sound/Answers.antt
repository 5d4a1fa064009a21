use Rattle.std.proofs.Common.{◌∙◌, refl}
use Rattle.pv_graph.proofs.MarkedCycles.{sound_more, sound_all}
use Rattle.pv_graph.proofs.marks.are_sound.Goals as goal

pub loop-node-preserved : goal.loop-node-preserved
loop-node-preserved c = sound_more c.args.graph.now c.args.marks.now c.loop-node.node c.in-Ok.number _ c.loop-node.invariant c.loop-node-test.true c.in-Ok.ensures.1
    (c.if-not-is_sound.ensures refl)

pub returns : goal.returns
returns c = λ _. sound_all c.args.graph.now c.args.marks.now c.loop-node.node (c.if-marks-len.false ∙ c.len.ensures) c.loop-node-test.false c.loop-node.invariant
