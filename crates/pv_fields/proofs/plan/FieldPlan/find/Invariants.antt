use Rattle.pv_fields.proofs.Marks.{HasFound}
use Rattle.pv_fields.proofs.plan.FieldPlan.find.Given as goal

abbrev pub invariant-loop-own : goal.invariant-loop-own
invariant-loop-own l = HasFound l.self.1 l.self.0.fields l.input l.directories.0 l.own-index l.fields.items l.extra.items
