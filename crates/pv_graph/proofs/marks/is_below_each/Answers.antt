use Rattle.std.proofs.Common.{rules, subst}
use Rattle.std.specs.List.{All}
use Rattle.std.proofs.lemmas.List.{take_all}
use Rattle.std.proofs.lemmas.List.Elements.{All-more}
use Rattle.pv_graph.specs.Marks.{IsBelow}
use Rattle.pv_graph.proofs.marks.is_below_each.Goals as goal

pub loop-successor-preserved : goal.loop-successor-preserved
loop-successor-preserved c =
    All-more (IsBelow c.args.marks.now c.args.mark.now) c.args.successors.now c.loop-successor.successor-index 0 c.loop-successor-test.true c.loop-successor.invariant (search rules)

pub returns : goal.returns
returns c = λ _. subst (λ xs. All (IsBelow c.args.marks.now c.args.mark.now) xs)
    (take_all c.loop-successor.successor-index c.args.successors.now c.loop-successor-test.false) c.loop-successor.invariant
