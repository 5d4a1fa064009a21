use Rattle.std.proofs.Common.{rules, ◌∙◌, subst, get_or}
use Rattle.pv_graph.specs.Heights.{IsHeight}
use Rattle.pv_graph.proofs.LongestWalks.{heights_more, heights_all}
use Rattle.pv_graph.proofs.heights.are_heights.Goals as goal

pub loop-node-preserved : goal.loop-node-preserved
loop-node-preserved c = heights_more c.args.graph.now c.args.heights.now c.loop-node.node c.loop-node.invariant
    (subst (λ ss. IsHeight ss c.args.heights.now (get_or c.args.heights.now c.loop-node.node 0)) c.successors.ensures (search rules))

pub returns : goal.returns
returns c = λ _. heights_all c.args.graph.now c.args.heights.now c.loop-node.node (c.if-heights-len.false ∙ c.len.ensures) c.loop-node-test.false c.loop-node.invariant
