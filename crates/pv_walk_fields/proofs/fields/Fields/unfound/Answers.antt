use Rattle.std.proofs.Common.{slice_get, sym, ap, ◌∙◌}
use Rattle.std.specs.Option.{option_map}
use Rattle.pv_fields.specs.Paths.{place_of}
use Rattle.pv_walk_fields.specs.GoingFields.{stand_in_outcome}
use Rattle.pv_walk.specs.Nests.{below}
use Rattle.pv_walk_fields.proofs.FieldTurns.{looked, default_next}
use Rattle.pv_walk_fields.proofs.fields.Fields.unfound.Goals as goal

pub returns-in_ok-defaulted-in-Some : goal.returns-in_ok-defaulted-in-Some
returns-in_ok-defaulted-in-Some g c start fs f e none h mark =
    let plan = c.args.object.now.plan.now in
    default_next _ _ _ _ _ _ _ _ h f _ (looked (λ x. x.name) (slice_get plan.0.fields c.args.field) f _ e c.name.ensures) _ _ _ mark c.len.ensures _ _ _ _ none
    (sym c.nth_stand_in.ensures ∙ ap (option_map (stand_in_outcome (below g.O.Objects.functions c.args.self.now.level.now))) c.in-Some.is)
    (looked (place_of plan.1) (slice_get plan.0.fields c.args.field) f _ e c.place.ensures)
    c.in_ok-found-in-Some.ensures c.in_ok-defaulted-in-Some.ensures.kept
