use Rattle.pv_scalar.proofs.WrittenInts.{plain_int}
use Rattle.pv_scalar.proofs.integers.written_int.Goals as goal

pub returns-in-Num : goal.returns-in-Num
returns-in-Num c = plain_int c.args.tree.now _ _ c.in-Num.is c.integer.ensures
