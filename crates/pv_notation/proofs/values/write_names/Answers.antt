use Rattle.std.proofs.Common.{rules}
use Rattle.pv_notation.specs.Strings.{quoted}
use Rattle.pv_notation.proofs.Fronts.{front_past, front_same, stopped}
use Rattle.pv_notation.proofs.Joins.{all_joined}
use Rattle.pv_notation.proofs.values.write_names.Goals as goal

pub returns-clause-ok : goal.returns-clause-ok
returns-clause-ok c =
    all_joined quoted _ _ _ c.args.names.now c.in-Some.rest.now c.in-Some.first.now c.loop-name.name-index (search rules) (search rules) c.loop-name.invariant c.loop-name-test.false

-- what a writer that stops leaves: what was written before it, and what it left itself
pub returns-in_err-write_quoted-clause-err : goal.returns-in_err-write_quoted-clause-err
returns-in_err-write_quoted-clause-err c = stopped _ (front_same _ _ c.in_err-write_quoted.ensures.err)

pub returns-in_err-push-clause-err : goal.returns-in_err-push-clause-err
returns-in_err-push-clause-err c = stopped _ (front_past _ _ _ _ c.in_ok-write_quoted.ensures.ok (front_past _ _ _ _ c.loop-name.invariant (front_same _ _ c.in_err-push.ensures.err)))

pub returns-in_err-write_quoted-2-clause-err : goal.returns-in_err-write_quoted-2-clause-err
returns-in_err-write_quoted-2-clause-err c =
    stopped _ (front_past _ _ _ _ c.in_ok-write_quoted.ensures.ok (front_past _ _ _ _ c.loop-name.invariant (front_past _ _ _ _ c.in_ok-push.ensures.ok (front_same _ _ c.in_err-write_quoted-2.ensures.err))))
