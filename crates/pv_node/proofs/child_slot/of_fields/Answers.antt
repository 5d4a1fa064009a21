use Rattle.std.proofs.Common.{◌≡◌, ◌<◌, ◌-◌, length, slice_get, ap, sym, ◌∙◌, arith}
use Rattle.pv_node.specs.Places.{extras_slots, field_path, field_slots}
use Rattle.pv_node.specs.declared.child_slot.Edge.TheVariants.{Enters}
use Rattle.pv_node.proofs.Lending.{within_listed, behind_listed}
use Rattle.pv_node.proofs.child_slot.of_fields.Goals as goal

pub returns-then-place-fields : goal.returns-then-place-fields
returns-then-place-fields c =
    let size : c.len-fields.result ≡ length c.args.nodes.now = c.len-fields.ensures in
    let less : c.args.place < c.len-fields.result = c.if-place-fields.true in
    c.of_field.ensures
    ∙ ap (λ rules. slice_get (field_slots rules c.args.nodes.now) c.args.place) c.as_slice.ensures
    ∙ sym (within_listed (field_path c.args.rule.now.fields) Enters 0 c.args.nodes.now (extras_slots c.args.extras.now) c.args.place (omega arith))

pub returns-else-place-fields : goal.returns-else-place-fields
returns-else-place-fields c =
    let size : c.len-fields.result ≡ length c.args.nodes.now = c.len-fields.ensures in
    c.of_extras.ensures
    ∙ ap (λ k. slice_get (extras_slots c.args.extras.now) (c.args.place - k)) size
    ∙ sym (behind_listed (field_path c.args.rule.now.fields) Enters 0 c.args.nodes.now (extras_slots c.args.extras.now) c.args.place (omega (arith, c.if-place-fields.false)))
