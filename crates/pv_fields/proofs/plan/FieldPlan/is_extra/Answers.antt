use Rattle.std.proofs.Common.{rules, refl, ap, ◌∙◌, get_or}
use Rattle.std.specs.Prelude.{None}
use Rattle.std.specs.List.{list_any}
use Rattle.pv_fields.specs.Finding.{begins, path_at}
use Rattle.pv_fields.proofs.Telling.{told_begun, told_short, told_all}
use Rattle.pv_fields.proofs.plan.FieldPlan.is_extra.Goals as goal

pub returns-then-begins_at : goal.returns-then-begins_at
returns-then-begins_at c =
    told_begun c.args.key.now c.as_slice-own-items.result.now c.args.found.now c.args.self.now.1 c.args.self.now.0.fields (search rules) c.loop-field.field c.own-item.result (get_or c.args.found.now c.loop-field.field None) None
    c.loop-field.invariant (search rules) (search rules) (search rules) refl c.begins_at.result
    (c.begins_at.ensures ∙ ap (λ ps. list_any (begins c.args.key.now) (path_at ps (get_or c.args.found.now c.loop-field.field None))) c.as_slice.ensures) c.if-begins_at.true

pub returns-then-field-found : goal.returns-then-field-found
returns-then-field-found c =
    told_short c.args.key.now c.as_slice-own-items.result.now c.args.found.now c.args.self.now.1 c.args.self.now.0.fields (search rules) c.loop-field.field c.loop-field.invariant (search rules)

pub returns : goal.returns
returns c =
    told_all c.args.key.now c.as_slice-own-items.result.now c.args.found.now c.args.self.now.1 c.args.self.now.0.fields (search rules) c.loop-field.field c.loop-field.invariant c.loop-field-test.false
