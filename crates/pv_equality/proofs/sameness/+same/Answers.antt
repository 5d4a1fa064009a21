use Rattle.pv_equality.specs.Equality as spec
use Rattle.pv_equality.proofs.Pairs.{all_pairs, more, not_all}
use Rattle.std.proofs.Common.{map, sym, ◌∙◌, rules}
use Rattle.pv_equality.proofs.SameLevels.{items_of, by_field, model_decided}
use Rattle.pv_equality.proofs.sameness.+same.Goals as goal

pub same_items-returns-then-not-same : goal.same_items-returns-then-not-same
same_items-returns-then-not-same t c =
    items_of _ _ _ (not_all spec.same c.args.values.now c.args.others.now c.loop-i.i c.index-values-i.result c.index-others-i.result c.loop-i-test.true (search rules)
    ((λ i. spec.same (sym c.index-values-i.is i) (sym c.index-others-i.is i)) ∙ cc))

pub same_items-loop-i-preserved : goal.same_items-loop-i-preserved
same_items-loop-i-preserved t c =
    more spec.same c.args.values.now c.args.others.now c.loop-i.i c.index-values-i.result c.index-others-i.result c.loop-i-test.true (search rules)
    ((λ i. spec.same (sym c.index-values-i.is i) (sym c.index-others-i.is i)) ∙ cc) c.loop-i.invariant

pub same_items-returns : goal.same_items-returns
same_items-returns t c = items_of _ _ _ (all_pairs spec.same c.args.values.now c.args.others.now c.loop-i.i c.loop-i-test.false (search rules) c.loop-i.invariant)

pub same-returns-else-not-same_fields : goal.same-returns-else-not-same_fields
same-returns-else-not-same_fields t c =
    model_decided c.args.a.now c.args.b.now c.in-Model.cls c.in-Model-b.other_cls c.in-Model.fields c.in-Model-b.other_fields c.in-Model.set c.in-Model-b.set c.in-Model.extra c.in-Model-b.other_extra
    c.same_fields-in-Model.result c.in-Model.is c.in-Model-b.is (search rules)
    ((λ i. spec.same_fields (map by_field (sym c.as_slice-in-Model.ensures i)) (sym c.as_slice-in-Model-2.ensures i)) ∙ sym c.same_fields.ensures ∙ c.if-not-same_fields.false)
    (c.same_fields-in-Model.ensures ∙ (λ i. spec.same_fields (map by_field (c.as_slice-in-Model-3.ensures i)) (c.as_slice-in-Model-4.ensures i)))
