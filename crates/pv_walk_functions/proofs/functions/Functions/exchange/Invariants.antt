use Rattle.std.proofs.Common.{◌≡◌, map}
use Rattle.pv_func.specs.Exchange.{asks_from, comes_to, exchange}
use Rattle.pv_walk.specs.Rules.{first}
use Rattle.pv_walk.specs.Nests.{below}
use Rattle.pv_walk_functions.proofs.functions.Functions.exchange.Given as goal

abbrev pub invariant-asks : goal.invariant-asks
invariant-asks g l =
    (comes_to (g.O.Wrap.WrapFn.wrapper l.object) l.tree (first (map (below g.O.Objects.functions l.self.level.now) l.children)) l.step
    ≡ exchange (g.O.Wrap.WrapFn.wrapper l.object) l.tree (first (map (below g.O.Objects.functions l.self.level.now) l.children)))
    × (l.out.errors ≡ l.fn.out.errors) × (l.out.path ≡ l.fn.out.path)

abbrev pub decreases-asks : goal.decreases-asks
decreases-asks g l = asks_from l.step
