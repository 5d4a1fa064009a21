use Rattle.std.proofs.Common.{rules}
use Rattle.pv_fields.proofs.Marks.{distinct_in, found_none, found_more, found_all}
use Rattle.pv_fields.proofs.plan.FieldPlan.find.Goals as goal

pub loop-own-init : goal.loop-own-init
loop-own-init c = found_none _ _ _ _ c.len-2.result _ _ c.new-directories.ensures (search rules) c.len-2.ensures (search rules)

pub loop-own-preserved : goal.loop-own-preserved
loop-own-preserved c =
    found_more _ _ _ _ _ _ _ _ _ _ c.own-item.result c.in_ok-found.found c.in_ok-found.member
    (distinct_in c.args.input.now)
    c.loop-own.invariant (search rules) (search rules) (search rules) (search rules) (search rules) c.as_slice-own-items.result.now (search rules) c.loop-own-test.true (search rules)

pub returns : goal.returns
returns c = found_all _ _ _ _ _ _ _ _ c.loop-own.invariant (search rules) c.loop-own-test.false
