use Rattle.std.proofs.Common.{take}
use Rattle.pv_tree.specs.Merging.{IsIndex}
use Rattle.pv_fields.proofs.directory.index_of.Given as goal

abbrev pub invariant-loop-place : goal.invariant-loop-place
invariant-loop-place l = IsIndex l.places (take l.place l.members)
