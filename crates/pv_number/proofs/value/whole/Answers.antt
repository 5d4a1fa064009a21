use Rattle.std.proofs.Common.{subst}
use Rattle.pv_number.specs.ExactNumber.{IsWhole}
use Rattle.pv_number.proofs.value.whole.Goals as goal

pub returns : goal.returns
returns c = subst (λ a. IsWhole a c.whole_of.result) c.of.ensures c.whole_of.ensures
