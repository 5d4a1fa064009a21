use Rattle.std.proofs.Common.{◌≡◌, List, [], length, take}
use Rattle.std.specs.List.{flat_map, filter}
use Rattle.pv_fields.specs.FieldList.{Answered}
use Rattle.pv_fields.specs.Finding.{is_extra, taken_paths}
use Rattle.pv_walk.specs.declared.Out.{Out}
use Rattle.pv_walk_fields.specs.Objects.{GoingObject, extra_by_policy}
use Rattle.pv_walk_fields.proofs.fields.Fields.all_extras.Given as goal

abbrev pub invariant-loop-place : goal.invariant-loop-place
invariant-loop-place g l =
    (start : Out) (fs : List Answered) → GoingObject start l.fn.out l.object l.fn.kept fs [] → l.object.mark ≡ length start.errors
    → GoingObject start l.out l.object l.kept fs
    (flat_map (extra_by_policy g.O.Objects.functions l.self.level.now l.object) (filter (λ m. is_extra (taken_paths l.object.plan.now.1 l.object.tree.now l.object.plan.now.0.fields) m.0) (take l.place l.members)))
