use Rattle.std.proofs.Common.{rules, ap, sym, ◌∙◌, ◌++◌}
use Rattle.std.proofs.lemmas.Simd.{map-map}
use Rattle.pv_notation.specs.Lists.{joined}
use Rattle.pv_notation.specs.Compact.{member_text}
use Rattle.pv_notation.proofs.Fronts.{front_past, front_same, stopped}
use Rattle.pv_notation.proofs.Joins.{all_joined}
use Rattle.pv_fault.specs.Wordings.{key_and_json}
use Rattle.pv_fault.proofs.printing.write_members.Goals as goal

pub returns-clause-ok : goal.returns-clause-ok
returns-clause-ok c =
    all_joined (λ m. member_text (key_and_json m)) _ _ _ c.args.members.now c.in-Some.rest.now c.in-Some.first.now c.loop-member.member-index (search rules) (search rules) c.loop-member.invariant c.loop-member-test.false
    ∙ ap (λ ms. c.args.out.now ++ joined ms) (sym (map-map member_text key_and_json c.args.members.now))

-- what a writer that stops leaves: what was written before it, and what it left itself
pub returns-in_err-write_member-clause-err : goal.returns-in_err-write_member-clause-err
returns-in_err-write_member-clause-err c = stopped _ c.in_err-write_member.ensures.err

pub returns-in_err-push-clause-err : goal.returns-in_err-push-clause-err
returns-in_err-push-clause-err c = stopped _ (front_past _ _ _ _ c.in_ok-write_member.ensures.ok (front_past _ _ _ _ c.loop-member.invariant (front_same _ _ c.in_err-push.ensures.err)))

pub returns-in_err-write_member-2-clause-err : goal.returns-in_err-write_member-2-clause-err
returns-in_err-write_member-2-clause-err c =
    stopped _ (front_past _ _ _ _ c.in_ok-write_member.ensures.ok (front_past _ _ _ _ c.loop-member.invariant (front_past _ _ _ _ c.in_ok-push.ensures.ok c.in_err-write_member-2.ensures.err)))
