use Rattle.std.proofs.Common.{rules}
use Rattle.pv_notation.proofs.Fronts.{front_past, front_same, stopped}
use Rattle.pv_notation.proofs.Joins.{all_joined}
use Rattle.pv_fault.specs.Errors.{error_text}
use Rattle.pv_fault.proofs.printing.write_errors.Goals as goal

pub returns-clause-ok : goal.returns-clause-ok
returns-clause-ok c =
    all_joined error_text _ _ _ c.args.errors.now c.in-Some.rest.now c.in-Some.first.now c.loop-error.error-index (search rules) (search rules) c.loop-error.invariant c.loop-error-test.false

-- what a writer that stops leaves: what was written before it, and what it left itself
pub returns-in_err-write_error-clause-err : goal.returns-in_err-write_error-clause-err
returns-in_err-write_error-clause-err c = stopped _ c.in_err-write_error.ensures.err

pub returns-in_err-push-clause-err : goal.returns-in_err-push-clause-err
returns-in_err-push-clause-err c = stopped _ (front_past _ _ _ _ c.in_ok-write_error.ensures.ok (front_past _ _ _ _ c.loop-error.invariant (front_same _ _ c.in_err-push.ensures.err)))

pub returns-in_err-write_error-2-clause-err : goal.returns-in_err-write_error-2-clause-err
returns-in_err-write_error-2-clause-err c =
    stopped _ (front_past _ _ _ _ c.in_ok-write_error.ensures.ok (front_past _ _ _ _ c.loop-error.invariant (front_past _ _ _ _ c.in_ok-push.ensures.ok c.in_err-write_error-2.ensures.err)))
