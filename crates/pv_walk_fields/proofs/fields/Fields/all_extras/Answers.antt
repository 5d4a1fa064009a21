use Rattle.std.proofs.Common.{List, ℕ, map, ap, ◌∙◌, arith}
use Rattle.std.specs.Prelude.{Bool}
use Rattle.pv_tree.specs.declared.Tree.{Tree}
use Rattle.pv_fields.specs.Finding.{is_extra, taken_paths, members_or_none}
use Rattle.pv_walk_fields.specs.declared.object.Object.{Object}
use Rattle.pv_walk_fields.specs.Objects.{extra_by_policy}
use Rattle.pv_walk_fields.proofs.FieldTurns.{told_at, passed_turn, failed_turn, last_turn}
use Rattle.pv_walk_fields.proofs.fields.Fields.all_extras.Goals as goal
use Rattle.pv_walk_fields.proofs.fields.Fields.all_extras.Goals.{then-is_extra+in_ok-extra, else-is_extra}

-- no path at whose end a field was found begins with the name
abbrev is_left : Object → List ℕ × Tree → Bool
is_left o m = is_extra (taken_paths o.plan.now.1 o.tree.now o.plan.now.0.fields) m.0

pub loop-place-preserved : goal.loop-place-preserved
loop-place-preserved g c start fs h mark =
    let o = c.args.object.now in
    let ms = c.args.members.now in
    let told = told_at (is_left o) ms c.loop-place.place c.index-members-place.result _ _ (omega arith) c.index-members-place.is
    (ap (λ y. y.extra) c.requires.finds ∙ ap (λ x. map (is_left o) (members_or_none x)) c.requires.members) c.is_extra.ensures in
    elim c.if-is_extra.branch [
      | then-is_extra+in_ok-extra w ↦
          passed_turn start _ _ _ _ _ _ fs (extra_by_policy g.O.Objects.functions c.args.self.now.level.now o) (is_left o) ms c.loop-place.place c.index-members-place.result
          (omega arith) c.index-members-place.is (told ∙ w.if-is_extra.true) w.out-is w.kept-is (w.in_ok-extra.ensures start fs _ (c.loop-place.invariant start fs h mark) mark)
      | else-is_extra w ↦
          failed_turn start _ _ _ _ _ _ fs (extra_by_policy g.O.Objects.functions c.args.self.now.level.now o) (is_left o) ms c.loop-place.place c.index-members-place.result
          (omega arith) c.index-members-place.is (told ∙ w.if-is_extra.false) w.out-is w.kept-is (c.loop-place.invariant start fs h mark)
    ]

pub returns : goal.returns
returns g c start fs h mark =
    let o = c.args.object.now in
    last_turn start _ _ _ _ fs (extra_by_policy g.O.Objects.functions c.args.self.now.level.now o) (is_left o) c.args.members.now _ c.loop-place.place
    (omega arith) (ap members_or_none c.requires.members) (c.loop-place.invariant start fs h mark)
