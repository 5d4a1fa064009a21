use Rattle.pv_equality.proofs.Levels.{same_refl, same_symm, same_trans}
use Rattle.pv_equality.proofs.laws.sameness_is_equivalence.Goals as goal

pub returns : goal.returns
returns c = record { reflexive = same_refl; symmetric = same_symm; transitive = same_trans }
