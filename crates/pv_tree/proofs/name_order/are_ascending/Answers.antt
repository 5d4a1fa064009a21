use Rattle.std.proofs.Common.{arith, rules}
use Rattle.pv_tree.proofs.Ascending.{start, further}
use Rattle.pv_tree.proofs.name_order.are_ascending.Goals as goal

pub loop-place-init : goal.loop-place-init
loop-place-init g c = start c.args.order c.args.members.now

pub loop-place-preserved : goal.loop-place-preserved
loop-place-preserved g c =
    further c.args.order c.args.members.now c.loop-place.place c.index-members-place.result c.index-members-place-in-loop-place.result
    (omega arith) (omega arith) c.index-members-place.is c.index-members-place-in-loop-place.is (search rules) c.loop-place.invariant
