use Rattle.std.proofs.Common.{ap, ◌∙◌}
use Rattle.pv_plan.specs.Functions.{fits, records_fit}
use Rattle.pv_plan.proofs.Fitting.{table_fits}
use Rattle.pv_plan.proofs.plan.Plan.fits.Goals as goal

pub returns : goal.returns
returns g c =
    let fs = g.O.Objects.functions c.args.objects.now in
    c.all_fit.ensures ∙ ap (records_fit fs) (c.as_slice.ensures ∙ c.self.invariant.0) ∙ table_fits fs c.self.inside.schema ∙ ap (fits fs) c.self.view_is
