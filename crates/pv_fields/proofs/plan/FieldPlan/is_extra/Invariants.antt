use Rattle.pv_fields.proofs.Telling.{HasTold}
use Rattle.pv_fields.proofs.plan.FieldPlan.is_extra.Given as goal

abbrev pub invariant-loop-field : goal.invariant-loop-field
invariant-loop-field l = HasTold l.key l.own-items l.found l.field
