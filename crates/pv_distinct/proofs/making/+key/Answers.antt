use Rattle.std.proofs.Common.{rules}
use Rattle.pv_distinct.proofs.Appending.{more}
use Rattle.pv_distinct.proofs.making.+key.Goals as goal

pub write_items-loop-value-preserved : goal.write_items-loop-value-preserved
write_items-loop-value-preserved t c =
    more c.args.values.now c.loop-value.value-index c.value-item.result _ _ _ c.loop-value-test.true c.value-item.is c.loop-value.invariant (search rules)
