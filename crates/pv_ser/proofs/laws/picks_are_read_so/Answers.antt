use Rattle.pv_ser.proofs.Agreeing.{agrees}
use Rattle.pv_ser.proofs.laws.picks_are_read_so.Goals as goal

pub returns-clause-picks : goal.returns-clause-picks
returns-clause-picks c = λ t. (agrees t).0

pub returns-clause-items : goal.returns-clause-items
returns-clause-items c = λ t. (agrees t).1
