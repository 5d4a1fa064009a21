use Rattle.pv_command.proofs.Swaps.{swapped}
use Rattle.pv_command.proofs.laws.options_may_change_places.Goals as goal

pub returns : goal.returns
returns c = swapped
