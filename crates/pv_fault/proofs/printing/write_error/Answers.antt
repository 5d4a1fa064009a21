use Rattle.std.proofs.Common.{rules}
use Rattle.pv_notation.proofs.Fronts.{front_past, front_same, stopped}
use Rattle.pv_fault.specs.Wordings.{printed_by}
use Rattle.pv_fault.proofs.Written.{error_written}
use Rattle.pv_fault.proofs.printing.write_error.Goals as goal

pub returns-clause-ok : goal.returns-clause-ok
returns-clause-ok c =
    error_written _ _ _ _ _ _ _ _ _ (printed_by c.wording_of-wording.result) c.args.error.now c.wording_of-wording.ensures
    c.in_ok-push.ensures.ok c.in_ok-write_type_and_loc.ensures.ok c.in_ok-push-2.ensures.ok c.in_ok-write_message_member.ensures.ok c.in_ok-push-3.ensures.ok
    c.in_ok-write_input_member.ensures.ok (search rules) c.in_ok-push-4.ensures.ok

-- what a writer that stops leaves: what was written before it, and what it left itself
pub returns-in_err-push-clause-err : goal.returns-in_err-push-clause-err
returns-in_err-push-clause-err c = stopped _ (front_same _ _ c.in_err-push.ensures.err)

pub returns-in_err-write_type_and_loc-clause-err : goal.returns-in_err-write_type_and_loc-clause-err
returns-in_err-write_type_and_loc-clause-err c = stopped _ (front_past _ _ _ _ c.in_ok-push.ensures.ok c.in_err-write_type_and_loc.ensures.err)

pub returns-in_err-push-2-clause-err : goal.returns-in_err-push-2-clause-err
returns-in_err-push-2-clause-err c =
    stopped _ (front_past _ _ _ _ c.in_ok-push.ensures.ok (front_past _ _ _ _ c.in_ok-write_type_and_loc.ensures.ok (front_same _ _ c.in_err-push-2.ensures.err)))

pub returns-in_err-write_message_member-clause-err :
    goal.returns-in_err-write_message_member-clause-err
returns-in_err-write_message_member-clause-err c =
    stopped _ (front_past _ _ _ _ c.in_ok-push.ensures.ok (front_past _ _ _ _ c.in_ok-write_type_and_loc.ensures.ok (front_past _ _ _ _ c.in_ok-push-2.ensures.ok c.in_err-write_message_member.ensures.err)))

pub returns-in_err-push-3-clause-err : goal.returns-in_err-push-3-clause-err
returns-in_err-push-3-clause-err c =
    stopped _ (front_past _ _ _ _ c.in_ok-push.ensures.ok (front_past _ _ _ _ c.in_ok-write_type_and_loc.ensures.ok (front_past _ _ _ _ c.in_ok-push-2.ensures.ok (front_past _ _ _ _ c.in_ok-write_message_member.ensures.ok (front_same _ _ c.in_err-push-3.ensures.err)))))

pub returns-in_err-write_input_member-clause-err : goal.returns-in_err-write_input_member-clause-err
returns-in_err-write_input_member-clause-err c =
    stopped _ (front_past _ _ _ _ c.in_ok-push.ensures.ok (front_past _ _ _ _ c.in_ok-write_type_and_loc.ensures.ok (front_past _ _ _ _ c.in_ok-push-2.ensures.ok (front_past _ _ _ _ c.in_ok-write_message_member.ensures.ok (front_past _ _ _ _ c.in_ok-push-3.ensures.ok c.in_err-write_input_member.ensures.err)))))

pub returns-in_err-write_context-clause-err : goal.returns-in_err-write_context-clause-err
returns-in_err-write_context-clause-err c =
    stopped _ (front_past _ _ _ _ c.in_ok-push.ensures.ok (front_past _ _ _ _ c.in_ok-write_type_and_loc.ensures.ok (front_past _ _ _ _ c.in_ok-push-2.ensures.ok (front_past _ _ _ _ c.in_ok-write_message_member.ensures.ok (front_past _ _ _ _ c.in_ok-push-3.ensures.ok (front_past _ _ _ _ c.in_ok-write_input_member.ensures.ok c.in_err-write_context.ensures.err))))))

pub returns-in_err-push-4-clause-err : goal.returns-in_err-push-4-clause-err
returns-in_err-push-4-clause-err c =
    stopped _ (front_past _ _ _ _ c.in_ok-push.ensures.ok (front_past _ _ _ _ c.in_ok-write_type_and_loc.ensures.ok (front_past _ _ _ _ c.in_ok-push-2.ensures.ok (front_past _ _ _ _ c.in_ok-write_message_member.ensures.ok (front_past _ _ _ _ c.in_ok-push-3.ensures.ok (front_past _ _ _ _ c.in_ok-write_input_member.ensures.ok (front_past _ _ _ _ c.in_ok-write_context.ensures.ok (front_same _ _ c.in_err-push-4.ensures.err))))))))
