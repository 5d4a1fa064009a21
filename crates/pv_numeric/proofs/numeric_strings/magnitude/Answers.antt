use Rattle.std.proofs.Common.{rules, arith, ◌∙◌}
use Rattle.pv_numeric.proofs.Digits.{value_step, value_done}
use Rattle.pv_numeric.proofs.numeric_strings.magnitude.Goals as goal

pub loop-byte-preserved : goal.loop-byte-preserved
loop-byte-preserved c = (value_step c.args.digits.now c.loop-byte.byte-index _ _ (omega arith) (search rules) ∙ c.loop-byte.invariant.0, omega arith)

pub returns : goal.returns
returns c = value_done c.args.digits.now c.loop-byte.byte-index c.loop-byte.value (omega arith) (omega arith) c.loop-byte.invariant.0
