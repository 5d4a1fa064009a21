use Rattle.std.proofs.Common.{rules}
use Rattle.pv_notation.specs.Locations.{step_text}
use Rattle.pv_notation.proofs.Fronts.{front_past, front_same, stopped}
use Rattle.pv_notation.proofs.Joins.{all_joined}
use Rattle.pv_notation.proofs.locations.write_steps.Goals as goal

pub returns-clause-ok : goal.returns-clause-ok
returns-clause-ok c =
    all_joined step_text _ _ _ c.args.steps.now c.in-Some.rest.now c.in-Some.first.now c.loop-step.step-index (search rules) c.in_ok-write_step.ensures.ok c.loop-step.invariant c.loop-step-test.false

-- what a writer that stops leaves: what was written before it, and what it left itself
pub returns-in_err-write_step-clause-err : goal.returns-in_err-write_step-clause-err
returns-in_err-write_step-clause-err c = stopped _ c.in_err-write_step.ensures.err

pub returns-in_err-push-clause-err : goal.returns-in_err-push-clause-err
returns-in_err-push-clause-err c = stopped _ (front_past _ _ _ _ c.in_ok-write_step.ensures.ok (front_past _ _ _ _ c.loop-step.invariant (front_same _ _ c.in_err-push.ensures.err)))

pub returns-in_err-write_step-2-clause-err : goal.returns-in_err-write_step-2-clause-err
returns-in_err-write_step-2-clause-err c =
    stopped _ (front_past _ _ _ _ c.in_ok-write_step.ensures.ok (front_past _ _ _ _ c.loop-step.invariant (front_past _ _ _ _ c.in_ok-push.ensures.ok c.in_err-write_step-2.ensures.err)))
