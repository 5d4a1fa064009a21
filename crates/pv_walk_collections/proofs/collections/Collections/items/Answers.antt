use Rattle.std.proofs.Common.{arith, map, sym, ◌∙◌}
use Rattle.pv_walk.specs.Rules.{first}
use Rattle.pv_walk.specs.Nests.{below}
use Rattle.pv_walk_collections.proofs.Parts.{going_start}
use Rattle.pv_walk_collections.proofs.Turns.{items_next, items_all}
use Rattle.pv_walk_collections.proofs.collections.Collections.items.Goals as goal

pub loop-place-init : goal.loop-place-init
loop-place-init g c = going_start _ _ _ c.in_ok-kept.ensures

pub loop-place-preserved : goal.loop-place-preserved
loop-place-preserved g c =
    items_next (first (map (below g.O.Objects.functions c.args.self.now.level.now) c.args.children.now)) c.args.items.now c.loop-place.place c.index-items-place.result _ _ _ _ _ _ _
    (omega arith) c.index-items-place.is c.loop-place.invariant c.in_ok-found.ensures (λ e. c.in_ok-take.ensures.keeps (c.len.ensures ∙ e ∙ sym c.len-mark.ensures))

pub returns : goal.returns
returns g c = c.finish_items.ensures _ _ (items_all (first (map (below g.O.Objects.functions c.args.self.now.level.now) c.args.children.now)) c.args.items.now c.loop-place.place _ _ _ _ c.loop-place-test.false c.loop-place.invariant) c.len-mark.ensures
