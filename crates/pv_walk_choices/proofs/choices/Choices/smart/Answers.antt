use Rattle.std.proofs.Common.{arith, refl, sym, ap, ◌∙◌}
use Rattle.pv_union.specs.Choice.{is_sure}
use Rattle.pv_walk.specs.Nests.{below}
use Rattle.pv_walk_choices.proofs.Choosing.{choosing_start, choosing_next, sure_taken, best_taken, nothing_taken, member_at, none_behind, label_here}
use Rattle.pv_walk_choices.proofs.choices.Choices.smart.Goals as goal

pub loop-place-init : goal.loop-place-init
loop-place-init g c = choosing_start _ _ _

pub loop-place-preserved : goal.loop-place-preserved
loop-place-preserved g c =
    choosing_next _ _ _ _ c.loop-place.place _ c.loop-place.invariant _ _ (c.in_ok-label.ensures ∙ label_here c.args.labels.now c.loop-place.place) _ _
    (member_at (below g.O.Objects.functions c.args.self.now.level.now) c.args.tree.now c.args.children.now c.loop-place.place _ 0 (omega arith) refl)
    c.in_ok-found.ensures _ (ap is_sure (sym c.score_found.ensures) ∙ sym c.if-is_sure.ensures) c.better-best.ensures

pub returns-then-is_sure : goal.returns-then-is_sure
returns-then-is_sure g c =
    sure_taken _ _ _ _ c.loop-place.place _ c.loop-place.invariant _ _ (c.in_ok-label.ensures ∙ label_here c.args.labels.now c.loop-place.place) _ _
    (member_at (below g.O.Objects.functions c.args.self.now.level.now) c.args.tree.now c.args.children.now c.loop-place.place _ 0 (omega arith) refl)
    c.in_ok-found.ensures _ _ c.len-mark.ensures refl c.cut.ensures (ap is_sure (sym c.score_found.ensures) ∙ sym c.if-is_sure.ensures)

pub returns-in-Some : goal.returns-in-Some
returns-in-Some g c =
    best_taken _ _ _ _ c.loop-place.place _ c.loop-place.invariant _ c.in-Some.is
    (none_behind (below g.O.Objects.functions c.args.self.now.level.now) c.args.tree.now c.args.children.now c.loop-place.place c.loop-place-test.false)
    _ _ c.len-mark.ensures refl c.cut-in-Some.ensures

pub returns-in-None : goal.returns-in-None
returns-in-None g c =
    nothing_taken _ _ _ _ c.loop-place.place _ c.loop-place.invariant c.in-None.is
    (none_behind (below g.O.Objects.functions c.args.self.now.level.now) c.args.tree.now c.args.children.now c.loop-place.place c.loop-place-test.false)
