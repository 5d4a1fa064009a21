use Rattle.pv_command.proofs.Refusals.{before, there}
use Rattle.pv_command.proofs.laws.refusals_name_the_first_word_that_cannot_stand.Goals as goal

pub returns-clause-before : goal.returns-clause-before
returns-clause-before c = before

pub returns-clause-there : goal.returns-clause-there
returns-clause-there c = there
