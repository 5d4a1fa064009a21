use Rattle.std.proofs.Common.{arith, refl, ◌∙◌}
use Rattle.pv_walk.specs.Nests.{below}
use Rattle.pv_walk_choices.proofs.Choosing.{failing_start, failing_next, failing_end, first_taken, member_at, none_behind, label_here}
use Rattle.pv_walk_choices.proofs.choices.Choices.left_to_right.Goals as goal

pub loop-place-init : goal.loop-place-init
loop-place-init g c = failing_start _ _ _

pub loop-place-preserved : goal.loop-place-preserved
loop-place-preserved g c =
    failing_next _ _ _ _ c.loop-place.place c.loop-place.invariant _ _ (c.in_ok-label.ensures ∙ label_here c.args.labels.now c.loop-place.place) _ _
    (member_at (below g.O.Objects.functions c.args.self.now.level.now) c.args.tree.now c.args.children.now c.loop-place.place _ 0 (omega arith) refl)
    c.in_ok-good.ensures c.in-None.is

pub returns-in-Some : goal.returns-in-Some
returns-in-Some g c =
    first_taken _ _ _ _ c.loop-place.place c.loop-place.invariant _ _ (c.in_ok-label.ensures ∙ label_here c.args.labels.now c.loop-place.place) _ _ _ _ _
    (member_at (below g.O.Objects.functions c.args.self.now.level.now) c.args.tree.now c.args.children.now c.loop-place.place _ 0 (omega arith) refl)
    c.in_ok-good.ensures c.in-Some.is c.len-mark.ensures refl c.cut.ensures

pub returns : goal.returns
returns g c =
    failing_end _ _ _ _ c.loop-place.place c.loop-place.invariant
    (none_behind (below g.O.Objects.functions c.args.self.now.level.now) c.args.tree.now c.args.children.now c.loop-place.place c.loop-place-test.false)
