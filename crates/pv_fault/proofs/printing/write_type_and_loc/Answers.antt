use Rattle.pv_notation.proofs.Fronts.{front_past, front_same, stopped}
use Rattle.pv_fault.proofs.printing.write_type_and_loc.Goals as goal

-- what a writer that stops leaves: what was written before it, and what it left itself
pub returns-in_err-write_key-clause-err : goal.returns-in_err-write_key-clause-err
returns-in_err-write_key-clause-err c = stopped _ c.in_err-write_key.ensures.err

pub returns-in_err-write_quoted-clause-err : goal.returns-in_err-write_quoted-clause-err
returns-in_err-write_quoted-clause-err c = stopped _ (front_past _ _ _ _ c.in_ok-write_key.ensures.ok (front_same _ _ c.in_err-write_quoted.ensures.err))

pub returns-in_err-push-clause-err : goal.returns-in_err-push-clause-err
returns-in_err-push-clause-err c = stopped _ (front_past _ _ _ _ c.in_ok-write_key.ensures.ok (front_past _ _ _ _ c.in_ok-write_quoted.ensures.ok (front_same _ _ c.in_err-push.ensures.err)))

pub returns-in_err-write_key-2-clause-err : goal.returns-in_err-write_key-2-clause-err
returns-in_err-write_key-2-clause-err c =
    stopped _ (front_past _ _ _ _ c.in_ok-write_key.ensures.ok (front_past _ _ _ _ c.in_ok-write_quoted.ensures.ok (front_past _ _ _ _ c.in_ok-push.ensures.ok c.in_err-write_key-2.ensures.err)))

pub returns-in_err-write_loc-clause-err : goal.returns-in_err-write_loc-clause-err
returns-in_err-write_loc-clause-err c =
    stopped _ (front_past _ _ _ _ c.in_ok-write_key.ensures.ok (front_past _ _ _ _ c.in_ok-write_quoted.ensures.ok (front_past _ _ _ _ c.in_ok-push.ensures.ok (front_past _ _ _ _ c.in_ok-write_key-2.ensures.ok (front_same _ _ c.in_err-write_loc.ensures.err)))))
