use Rattle.pv_number.proofs.WholeLaws.{some_answer, one_answer}
use Rattle.pv_number.proofs.laws.wholes_are_one.Goals as goal

pub returns : goal.returns
returns c = record { some = some_answer; one = one_answer }
