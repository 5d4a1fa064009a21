use Rattle.std.proofs.Common.{rules}
use Rattle.pv_fault.specs.Under.{at_path}
use Rattle.pv_fault.proofs.Turns.{one_more}
use Rattle.pv_fault.proofs.paths.put_at_path.Goals as goal

pub loop-place-preserved : goal.loop-place-preserved
loop-place-preserved c =
    one_more (at_path c.args.path.now) c.args.errors.now c.loop-place.errors c.loop-place.place c.index-errors-place.result c.put_one_at_path.new.error
    (search rules) c.loop-place.invariant (search rules) (search rules)
