use Rattle.std.proofs.Common.{arith}
use Rattle.pv_walk_fields.specs.Objects.{children_by, stand_ins_by}
use Rattle.pv_walk_fields.proofs.FieldTurns.{something_at, field_turn, last_field}
use Rattle.pv_walk_fields.proofs.fields.Fields.all_fields.Goals as goal

pub loop-field-preserved : goal.loop-field-preserved
loop-field-preserved g c =
    let o = c.args.object.now in
    let here = something_at o.plan.now.0.fields c.loop-field.field (omega (arith, c.len-field-end.ensures)) in
    field_turn _ _ _ _ _ (children_by g.O.Objects.functions c.args.self.now.level.now o.children.now) (stand_ins_by g.O.Objects.functions c.args.self.now.level.now o.children.now) c.loop-field.field o.plan.now.0.fields here.0 here.1
    (c.in_ok-field.ensures _ _ here.0 here.1 c.loop-field.invariant c.requires.mark)

pub returns : goal.returns
returns g c =
    let o = c.args.object.now in
    last_field _ _ _ _ _ (children_by g.O.Objects.functions c.args.self.now.level.now o.children.now) (stand_ins_by g.O.Objects.functions c.args.self.now.level.now o.children.now) c.loop-field.field o.plan.now.0.fields (omega (arith, c.len-field-end.ensures))
    c.loop-field.invariant
