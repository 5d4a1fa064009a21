use Rattle.std.proofs.Common.{◌∙◌, ◌<◌, ap, sym, length, slice_get, refl, arith}
use Rattle.std.proofs.lemmas.Option.{slice_get_read}
use Rattle.pv_plan.specs.Layout.{table_of}
use Rattle.pv_plan.proofs.Tables.{counted}
use Rattle.pv_plan.proofs.plan.Plan.slot.Goals as goal

pub bounds-as_slice-number : goal.bounds-as_slice-number
bounds-as_slice-number c =
    let size = counted c.args.self.now c.self.inside.schema c.as_slice.result.now (c.as_slice.ensures ∙ c.self.invariant.0) c.self.view_is in
    omega arith

pub returns : goal.returns
returns c =
    let size = counted c.args.self.now c.self.inside.schema c.as_slice.result.now (c.as_slice.ensures ∙ c.self.invariant.0) c.self.view_is in
    let within : c.args.number < length c.as_slice.result.now = omega arith in
    ap (λ t. slice_get t c.args.number) (sym (c.as_slice.ensures ∙ c.self.invariant.0 ∙ ap table_of c.self.view_is))
    ∙ slice_get_read c.as_slice.result.now _ c.args.number c.index-as_slice-number.result refl within c.index-as_slice-number.is
