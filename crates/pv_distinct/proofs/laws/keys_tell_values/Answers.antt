use Rattle.pv_distinct.proofs.Telling.{keys_tell}
use Rattle.pv_distinct.proofs.laws.keys_tell_values.Goals as goal

pub returns : goal.returns
returns c = keys_tell
