use Rattle.std.proofs.Common.{arith}
use Rattle.pv_plan.proofs.Tables.{counted}
use Rattle.pv_plan.proofs.plan.Plan.nodes.Goals as goal

pub overflow_sub-result : goal.overflow_sub-result
overflow_sub-result c =
    let size = counted c.args.self.now c.self.inside.schema c.self.inside.table c.self.invariant.0 c.self.view_is in
    omega arith

pub returns : goal.returns
returns c =
    let size = counted c.args.self.now c.self.inside.schema c.self.inside.table c.self.invariant.0 c.self.view_is in
    omega arith
