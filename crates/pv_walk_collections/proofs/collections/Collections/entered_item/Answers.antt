use Rattle.std.proofs.Common.{refl}
use Rattle.pv_walk.proofs.Walking.{stepped}
use Rattle.pv_walk_collections.proofs.collections.Collections.entered_item.Goals as goal

pub returns : goal.returns
returns g c = stepped _ _ _ _ _ _ _ _ c.len-len.ensures c.in_ok-push.ensures.ok refl c.in_ok-found.ensures c.cut.ensures refl
