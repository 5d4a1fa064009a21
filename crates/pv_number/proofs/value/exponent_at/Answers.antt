use Rattle.std.proofs.Common.{arith}
use Rattle.std.proofs.lemmas.Int.{ints}
use Rattle.pv_number.proofs.Exponents.{capped_alone}
use Rattle.pv_number.proofs.value.exponent_at.Goals as goal

pub returns : goal.returns
returns c = let written = capped_alone _ _ _ c.zero.ensures c.exponent_difference-written.ensures.value in omega (arith, ints)
