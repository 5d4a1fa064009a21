use Rattle.std.proofs.Common.{slice_get, ap, ◌∙◌}
use Rattle.pv_fields.specs.Finding.{found_field}
use Rattle.pv_fields.specs.Paths.{front_of}
use Rattle.pv_paths.specs.Following.{hit}
use Rattle.pv_walk_fields.proofs.FieldTurns.{looked, found_at, found_next}
use Rattle.pv_walk_fields.proofs.fields.Fields.field.Goals as goal

pub returns-in_ok-given-in-At : goal.returns-in_ok-given-in-At
returns-in_ok-given-in-At g c start fs f e h mark =
    let plan = c.args.object.now.plan.now in
    found_next _ _ _ _ _ _ _ _ h f _ (looked (λ x. x.name) (slice_get plan.0.fields c.args.field) f _ e c.name.ensures) _ _ _ mark c.len.ensures _ _ _ _ _
    (found_at (found_field plan.1 c.args.object.now.tree.now) plan.0.fields c.args.field f _ _ e (ap (λ y. y.fields) c.requires.finds) c.field.ensures ∙ ap hit c.in-At.is)
    (looked (λ x. front_of plan.1 x c.in-At.path) (slice_get plan.0.fields c.args.field) f _ e c.front-front.ensures)
    c.in_ok-found-in-At.ensures c.in_ok-given-in-At.ensures.kept

pub returns-in_ok-unfound-in-Missing : goal.returns-in_ok-unfound-in-Missing
returns-in_ok-unfound-in-Missing g c start fs f e h mark =
    let plan = c.args.object.now.plan.now in
    c.in_ok-unfound-in-Missing.ensures start fs f e
    (found_at (found_field plan.1 c.args.object.now.tree.now) plan.0.fields c.args.field f _ _ e (ap (λ y. y.fields) c.requires.finds) c.field.ensures ∙ ap hit c.in-Missing.is)
    h mark
