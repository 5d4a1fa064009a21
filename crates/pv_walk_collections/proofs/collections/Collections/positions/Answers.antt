use Rattle.std.proofs.Common.{arith, map, length, sym, ◌∙◌}
use Rattle.std.proofs.lemmas.List.{drop_all}
use Rattle.pv_walk.specs.Rules.{takers}
use Rattle.pv_walk.specs.Nests.{below}
use Rattle.pv_walk_collections.proofs.Turns.{empty_list, full_list, placed_next, placed_past, placed_all}
use Rattle.pv_walk_collections.proofs.collections.Collections.positions.Goals as goal

pub returns-then-is_empty : goal.returns-then-is_empty
returns-then-is_empty g c =
    c.finish_items.ensures _ _
    (placed_past c.args.rule.now.kind (below g.O.Objects.functions c.args.self.now.level.now) c.args.children.now (takers c.args.rule.now (length c.args.items.now)) c.args.items.now
    c.loop-place.place c.index-items-place.result c.children_from-takers.result.now
    (omega arith) c.index-items-place.is c.children_from-takers.ensures _ _ _ (empty_list _ _ c.is_empty.ensures c.if-is_empty.true) c.loop-place.invariant)
    c.len-mark.ensures

pub loop-place-preserved : goal.loop-place-preserved
loop-place-preserved g c =
    placed_next c.args.rule.now.kind (below g.O.Objects.functions c.args.self.now.level.now) c.args.children.now (takers c.args.rule.now (length c.args.items.now)) c.args.items.now
    c.loop-place.place c.index-items-place.result c.children_from-takers.result.now
    (omega arith) c.index-items-place.is c.children_from-takers.ensures _ _ _ _ _ _ (full_list _ _ c.is_empty.ensures c.if-is_empty.false) c.loop-place.invariant
    c.in_ok-found.ensures (λ e. c.in_ok-take.ensures.keeps (c.len.ensures ∙ e ∙ sym c.len-mark.ensures))

pub returns : goal.returns
returns g c =
    c.finish_items-2.ensures _ _
    (placed_all c.args.rule.now.kind (map (below g.O.Objects.functions c.args.self.now.level.now) c.args.children.now) (takers c.args.rule.now (length c.args.items.now)) c.args.items.now
    c.loop-place.place _ _ _ (drop_all c.loop-place.place c.args.items.now c.loop-place-test.false) c.loop-place.invariant)
    c.len-mark.ensures
