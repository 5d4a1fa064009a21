use Rattle.std.proofs.Common.{arith}
use Rattle.pv_number.proofs.Runs.{written_step}
use Rattle.pv_number.proofs.comparing.write_digits.Goals as goal

pub loop-rest-preserved : goal.loop-rest-preserved
loop-rest-preserved c = written_step _ _ _ _ (omega arith) c.loop-rest.invariant.0 c.loop-rest.invariant.1 c.loop-rest.invariant.2
