use Rattle.std.proofs.Common.{sym, ◌∙◌}
use Rattle.pv_notation.proofs.Fronts.{front_past, front_same, stopped}
use Rattle.pv_fault.proofs.Written.{context_written}
use Rattle.pv_fault.proofs.printing.write_context.Goals as goal

pub returns-clause-ok : goal.returns-clause-ok
returns-clause-ok c =
    context_written _ _ _ _ _ _ c.args.members.now (sym c.is_empty.ensures ∙ c.if-is_empty.false)
    c.in_ok-push.ensures.ok c.in_ok-write_key.ensures.ok c.in_ok-push-2.ensures.ok c.in_ok-write_members.ensures.ok c.in_ok-push-3.ensures.ok

-- what a writer that stops leaves: what was written before it, and what it left itself
pub returns-in_err-push-clause-err : goal.returns-in_err-push-clause-err
returns-in_err-push-clause-err c = stopped _ (front_same _ _ c.in_err-push.ensures.err)

pub returns-in_err-write_key-clause-err : goal.returns-in_err-write_key-clause-err
returns-in_err-write_key-clause-err c = stopped _ (front_past _ _ _ _ c.in_ok-push.ensures.ok c.in_err-write_key.ensures.err)

pub returns-in_err-push-2-clause-err : goal.returns-in_err-push-2-clause-err
returns-in_err-push-2-clause-err c = stopped _ (front_past _ _ _ _ c.in_ok-push.ensures.ok (front_past _ _ _ _ c.in_ok-write_key.ensures.ok (front_same _ _ c.in_err-push-2.ensures.err)))

pub returns-in_err-write_members-clause-err : goal.returns-in_err-write_members-clause-err
returns-in_err-write_members-clause-err c =
    stopped _ (front_past _ _ _ _ c.in_ok-push.ensures.ok (front_past _ _ _ _ c.in_ok-write_key.ensures.ok (front_past _ _ _ _ c.in_ok-push-2.ensures.ok c.in_err-write_members.ensures.err)))

pub returns-in_err-push-3-clause-err : goal.returns-in_err-push-3-clause-err
returns-in_err-push-3-clause-err c =
    stopped _ (front_past _ _ _ _ c.in_ok-push.ensures.ok (front_past _ _ _ _ c.in_ok-write_key.ensures.ok (front_past _ _ _ _ c.in_ok-push-2.ensures.ok (front_past _ _ _ _ c.in_ok-write_members.ensures.ok (front_same _ _ c.in_err-push-3.ensures.err)))))
