use Rattle.std.proofs.Common.{rules, ◌∙◌, sym}
use Rattle.pv_distinct.proofs.Chains.{distinct_keys, one_key_further}
use Rattle.pv_distinct.proofs.ascending.have_ascending_keys.Goals as goal

pub loop-i-preserved : goal.loop-i-preserved
loop-i-preserved c =
    one_key_further c.args.entries.now c.loop-i.i c.index-entries-i.result c.index-entries-i-in-loop-i.result (search rules) c.loop-i-test.true
    (sym c.ascend.ensures ∙ c.if-not-ascend.false) c.loop-i.invariant

pub returns : goal.returns
returns c = λ _. distinct_keys c.args.entries.now c.loop-i.i c.loop-i-test.false c.loop-i.invariant
