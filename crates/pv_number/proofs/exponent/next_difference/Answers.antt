use Rattle.std.proofs.Common.{arith, rules, ◌∙◌}
use Rattle.std.proofs.lemmas.Int.{ints, to_z-of_z}
use Rattle.std.specs.Int.{w128}
use Rattle.pv_number.proofs.Exponents.{stopped}
use Rattle.pv_number.proofs.exponent.next_difference.Goals as goal

pub returns-clause-value : goal.returns-clause-value
returns-clause-value c = to_z-of_z w128 c.stop.result (search rules) ∙ stopped _ _ _ c.stop.ensures.value (omega (arith, ints))
