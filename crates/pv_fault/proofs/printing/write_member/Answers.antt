use Rattle.pv_notation.proofs.Fronts.{front_past, stopped}
use Rattle.pv_fault.proofs.printing.write_member.Goals as goal

-- what a writer that stops leaves: what was written before it, and what it left itself
pub returns-in_err-write_key-clause-err : goal.returns-in_err-write_key-clause-err
returns-in_err-write_key-clause-err c = stopped _ c.in_err-write_key.ensures.err

pub returns-in_err-write_json-clause-err : goal.returns-in_err-write_json-clause-err
returns-in_err-write_json-clause-err c = stopped _ (front_past _ _ _ _ c.in_ok-write_key.ensures.ok c.in_err-write_json.ensures.err)
