use Rattle.std.proofs.Common.{◌≡◌, drop}
use Rattle.pv_plan.specs.Functions.{records_fit}
use Rattle.pv_plan.proofs.functions.all_fit.Given as goal

abbrev pub invariant-loop-place : goal.invariant-loop-place
invariant-loop-place g l = records_fit (g.O.Objects.functions l.objects) (drop l.place l.records) ≡ records_fit (g.O.Objects.functions l.objects) l.records
