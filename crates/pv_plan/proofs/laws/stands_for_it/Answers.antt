use Rattle.pv_plan.proofs.Placed.{stands}
use Rattle.pv_plan.proofs.laws.stands_for_it.Goals as goal

pub returns : goal.returns
returns c = stands
