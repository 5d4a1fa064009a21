use Rattle.std.proofs.Common.{map, take}
use Rattle.pv_walk.specs.Rules.{first, part}
use Rattle.pv_walk.specs.Nests.{below}
use Rattle.pv_walk_collections.specs.Going.{Going}
use Rattle.pv_walk_collections.proofs.collections.Collections.items.Given as goal

abbrev pub invariant-loop-place : goal.invariant-loop-place
invariant-loop-place g l = Going l.fn.out l.out l.rule.kind l.kept (map (part (first (map (below g.O.Objects.functions l.self.level.now) l.children))) (take l.place l.items))
