use Rattle.std.proofs.Common.{map, take}
use Rattle.pv_walk.specs.Rules.{first, second, pair}
use Rattle.pv_walk.specs.Nests.{below}
use Rattle.pv_walk_collections.specs.Going.{GoingPairs}
use Rattle.pv_walk_collections.proofs.collections.Collections.members.Given as goal

abbrev pub invariant-loop-name : goal.invariant-loop-name
invariant-loop-name g l =
    GoingPairs l.fn.out l.out l.rule.kind l.kept (map (pair (first (map (below g.O.Objects.functions l.self.level.now) l.children)) (second (map (below g.O.Objects.functions l.self.level.now) l.children))) (take l.name-index l.members))
