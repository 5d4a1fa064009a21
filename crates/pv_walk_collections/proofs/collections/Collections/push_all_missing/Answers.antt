use Rattle.pv_walk.proofs.Walking.{adds_none}
use Rattle.pv_walk_collections.proofs.Turns.{missing_next}
use Rattle.pv_walk_collections.proofs.collections.Collections.push_all_missing.Goals as goal

pub loop-more-init : goal.loop-more-init
loop-more-init g c = adds_none _

pub loop-more-preserved : goal.loop-more-preserved
loop-more-preserved g c = missing_next _ _ _ _ _ _ c.loop-more.invariant c.in_ok-push_below.ensures
