use Rattle.pv_notation.proofs.ValueLines.{notations_are_lines, locations_are_lines}
use Rattle.pv_notation.proofs.TreeLines.{trees_are_lines}
use Rattle.pv_notation.proofs.laws.notations_are_lines.Goals as goal

pub returns-clause-values : goal.returns-clause-values
returns-clause-values c = notations_are_lines

pub returns-clause-locations : goal.returns-clause-locations
returns-clause-locations c = locations_are_lines

pub returns-clause-trees : goal.returns-clause-trees
returns-clause-trees c = trees_are_lines
