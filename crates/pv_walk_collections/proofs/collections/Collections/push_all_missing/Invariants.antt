use Rattle.pv_collect.specs.Gathering.{missing_from}
use Rattle.pv_walk.specs.Walks.{Adds}
use Rattle.pv_walk_collections.proofs.collections.Collections.push_all_missing.Given as goal

abbrev pub invariant-loop-more : goal.invariant-loop-more
invariant-loop-more g l = Adds l.fn.out l.out (missing_from l.items l.more l.tree)
