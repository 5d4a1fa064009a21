use Rattle.pv_notation.proofs.Fronts.{front_past, front_same, stopped}
use Rattle.pv_notation.proofs.values.write_hex.Goals as goal

-- what a writer that stops leaves: what was written before it, and what it left itself
pub returns-in_err-open_tag-clause-err : goal.returns-in_err-open_tag-clause-err
returns-in_err-open_tag-clause-err c = stopped _ c.in_err-open_tag.ensures.err

pub returns-in_err-push-clause-err : goal.returns-in_err-push-clause-err
returns-in_err-push-clause-err c = stopped _ (front_past _ _ _ _ c.in_ok-open_tag.ensures.ok (front_same _ _ c.in_err-push.ensures.err))

pub returns-in_err-write_bytes_hex-clause-err : goal.returns-in_err-write_bytes_hex-clause-err
returns-in_err-write_bytes_hex-clause-err c = stopped _ (front_past _ _ _ _ c.in_ok-open_tag.ensures.ok (front_past _ _ _ _ c.in_ok-push.ensures.ok c.in_err-write_bytes_hex.ensures.err))

pub returns-in_err-push_slice-clause-err : goal.returns-in_err-push_slice-clause-err
returns-in_err-push_slice-clause-err c =
    stopped _ (front_past _ _ _ _ c.in_ok-open_tag.ensures.ok (front_past _ _ _ _ c.in_ok-push.ensures.ok (front_past _ _ _ _ c.in_ok-write_bytes_hex.ensures.ok (front_same _ _ c.in_err-push_slice.ensures.err))))
