use Rattle.std.proofs.Common.{arith}
use Rattle.std.proofs.lemmas.Grind.{common_steps}
use Rattle.pv_number.specs.Scanning.{number_len}
use Rattle.pv_number.proofs.Soundness.{number_front}
use Rattle.pv_number.proofs.scanning.number_len.Goals as goal

pub returns-clause-number : goal.returns-clause-number
unfolding number_len
returns-clause-number c = number_front _ _ (grind (arith, common_steps))
