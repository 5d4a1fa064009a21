use Rattle.std.specs.List.{IsDistinct}
use Rattle.pv_fields.proofs.directory.members_of.Goals as goal

pub returns-in-Null-clause-distinct : goal.returns-in-Null-clause-distinct
unfolding IsDistinct
returns-in-Null-clause-distinct c = tt
