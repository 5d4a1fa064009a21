use Rattle.pv_number.proofs.WrittenIntegers.{exponent_none}
use Rattle.pv_number.proofs.laws.integers_are_whole.Goals as goal

pub returns : goal.returns
returns c = exponent_none
