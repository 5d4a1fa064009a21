use Rattle.std.proofs.Common.{arith}
use Rattle.std.proofs.lemmas.Int.{ints}
use Rattle.pv_number.proofs.comparing.first_difference.Goals as goal

pub returns : goal.returns
returns c = omega (arith, ints)
