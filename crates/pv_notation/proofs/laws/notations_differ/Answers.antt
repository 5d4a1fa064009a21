use Rattle.pv_notation.proofs.Differ.{notations_differ}
use Rattle.pv_notation.proofs.laws.notations_differ.Goals as goal

pub returns : goal.returns
returns c = notations_differ
