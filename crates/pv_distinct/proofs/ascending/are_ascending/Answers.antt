use Rattle.std.proofs.Common.{rules, ◌∙◌, sym}
use Rattle.pv_distinct.proofs.Chains.{distinct_so, one_further}
use Rattle.pv_distinct.proofs.ascending.are_ascending.Goals as goal

pub loop-i-preserved : goal.loop-i-preserved
loop-i-preserved c =
    one_further c.args.values.now c.loop-i.i c.index-values-i.result c.index-values-i-in-loop-i.result (search rules) c.loop-i-test.true c.index-values-i.is c.index-values-i-in-loop-i.is
    (sym c.ascend.ensures ∙ c.if-not-ascend.false) c.loop-i.invariant

pub returns : goal.returns
returns c = λ _. distinct_so c.args.values.now c.loop-i.i c.loop-i-test.false c.loop-i.invariant
