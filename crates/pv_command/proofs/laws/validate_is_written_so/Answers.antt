use Rattle.pv_command.proofs.Validates.{validates}
use Rattle.pv_command.proofs.laws.validate_is_written_so.Goals as goal

pub returns : goal.returns
returns c = validates
