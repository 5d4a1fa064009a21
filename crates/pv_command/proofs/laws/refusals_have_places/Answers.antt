use Rattle.pv_command.proofs.Refusals.{first_place, last_place}
use Rattle.pv_command.proofs.laws.refusals_have_places.Goals as goal

pub returns-clause-first : goal.returns-clause-first
returns-clause-first c = first_place

pub returns-clause-last : goal.returns-clause-last
returns-clause-last c = last_place
