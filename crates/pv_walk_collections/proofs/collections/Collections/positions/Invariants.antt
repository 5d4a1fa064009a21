use Rattle.std.proofs.Common.{map, length}
use Rattle.pv_walk.specs.Rules.{takers}
use Rattle.pv_walk.specs.Nests.{below}
use Rattle.pv_walk_collections.proofs.Turns.{Placing}
use Rattle.pv_walk_collections.proofs.collections.Collections.positions.Given as goal

abbrev pub invariant-loop-place : goal.invariant-loop-place
invariant-loop-place g l =
    Placing l.fn.out l.out l.rule.kind (map (below g.O.Objects.functions l.self.level.now) l.children) (takers l.rule (length l.items)) l.items l.place l.kept
