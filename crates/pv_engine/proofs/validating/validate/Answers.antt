use Rattle.std.proofs.Common.{◌≡◌, ◌∙◌, ap, refl, Some, slice_get}
use Rattle.pv_node.specs.Places.{places_of, root_place}
use Rattle.pv_plan.specs.Records.{all_places}
use Rattle.pv_plan.specs.Layout.{table_of}
use Rattle.pv_plan.proofs.Placed.{stands}
use Rattle.pv_walk.specs.Context.{Context}
use Rattle.pv_walk.specs.Run.{run_table, means}
use Rattle.pv_walk.specs.Walks.{outcome_of}
use Rattle.pv_engine.proofs.Agrees.{agrees}
use Rattle.pv_walk.proofs.Walking.{outcome_alone}
use Rattle.pv_engine.proofs.validating.validate.Goals as goal

pub returns : goal.returns
unfolding places_of means
returns g c =
    let root = c.args.plan.now in
    let run : Context = record { strict = c.args.strict; functions = g.O.Objects.functions c.args.objects.now } in
    let here : slice_get (all_places root) 0 ≡ Some (root_place root) = refl in
    c.outcome.ensures ∙ ap (λ es. outcome_of es c.in_ok-found.field-0) c.into_errors-errors.ensures
    ∙ outcome_alone _ _ _ _ c.new-out.ensures.errors c.new-out.ensures.path c.in_ok-found.ensures
    ∙ ap (λ n. run_table c.as_slice.result.now run 1000 n c.args.t.now) c.root.ensures
    ∙ ap (λ table. run_table table run 1000 0 c.args.t.now) c.as_slice.ensures
    ∙ agrees root (table_of root) run (stands root) 1000 0 (root_place root) c.args.t.now here
