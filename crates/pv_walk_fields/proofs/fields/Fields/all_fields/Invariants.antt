use Rattle.std.proofs.Common.{[], take}
use Rattle.pv_walk_fields.specs.Objects.{GoingObject, answers_by}
use Rattle.pv_walk_fields.proofs.fields.Fields.all_fields.Given as goal

abbrev pub invariant-loop-field : goal.invariant-loop-field
invariant-loop-field g l = GoingObject l.fn.out l.out l.object l.kept (take l.field (answers_by g.O.Objects.functions l.self.level.now l.object)) []
