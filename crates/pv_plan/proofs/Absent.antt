-- What stands for an absent schema.
use Rattle.std.proofs.Common.{◌≡◌, ℕ, ◌+◌, false, [], None, unwrap_or, ap, sym, ◌∙◌}
use Rattle.pv_rules.specs.Settings.{plain}
use Rattle.pv_rules.specs.declared.ScalarRule.TheVariants as rule
use Rattle.pv_node.specs.declared.Node.{Node, out-roll-Node}
use Rattle.pv_node.specs.declared.Body.{out-Body, out-roll-Body}
use Rattle.pv_node.specs.declared.Body.TheVariants as body
use Rattle.pv_node.specs.declared.Body.TheVariants.{rolls-Scalar}
use Rattle.pv_node.specs.declared.Body.TheOpen.{Body-F}
use Rattle.pv_node.specs.Absent.{any}
use Rattle.pv_node.specs.Places.{body_of, slots, slots_of}
use Rattle.pv_plan.specs.declared.record.Op.TheVariants as op
use Rattle.pv_plan.specs.declared.record.Record.{Record}
use Rattle.pv_references.specs.Targets.{reference_of}
use Rattle.pv_plan.specs.Records.{op_of, own_strict, validates_at, own_validates, any_place}
use Rattle.pv_plan.specs.Layout.{children_at, numbers, record_at}

pub any_body : body_of any ≡ Body-F.Scalar rule.Any
any_body =
    ap (λ n. out-Body n.body) (out-roll-Node (record { own_ref = None; strict = None; body = body.Scalar rule.Any }))
    ∙ ap out-Body (sym (rolls-Scalar rule.Any)) ∙ out-roll-Body (Body-F.Scalar rule.Any)

any_strict : own_strict any_place ≡ false
any_strict = ap (λ n. unwrap_or n.strict false) (out-roll-Node (record { own_ref = None; strict = None; body = body.Scalar rule.Any }))

any_validates : own_validates any_place ≡ false
any_validates = ap (λ b. unwrap_or (validates_at b) false) any_body

pub no_slots : slots_of any ≡ []
no_slots = ap slots any_body

-- it leads to no other place
no_children : (root : Node) (last at : ℕ) → children_at root last at any_place (reference_of (body_of any)) ≡ []
no_children root last at = ap (λ b. children_at root last at any_place (reference_of b)) any_body ∙ ap (numbers last at) no_slots

pub any_record : (root : Node) (last at : ℕ) → record_at root last at any_place ≡ record { op = op.Scalar (rule.Any, plain); children = []; strict = false; validate_default = false }
any_record root last at =
    ap (λ b. let r : Record = record { op = op_of plain b; children = children_at root last (at + 1) any_place (reference_of (body_of any)); strict = own_strict any_place; validate_default = own_validates any_place } in r) any_body
    ∙ ap (λ cs. let r : Record = record { op = op.Scalar (rule.Any, plain); children = cs; strict = own_strict any_place; validate_default = own_validates any_place } in r) (no_children root last (at + 1))
    ∙ ap (λ s. let r : Record = record { op = op.Scalar (rule.Any, plain); children = []; strict = s; validate_default = own_validates any_place } in r) any_strict
    ∙ ap (λ v. let r : Record = record { op = op.Scalar (rule.Any, plain); children = []; strict = false; validate_default = v } in r) any_validates
