use Rattle.std.proofs.Common.{◌≡◌, take}
use Rattle.pv_tree.specs.Merging.{merged}
use Rattle.pv_tree.proofs.merging.may_repeat.Given as goal

abbrev pub invariant-loop-place : goal.invariant-loop-place
invariant-loop-place g l = merged (take l.place l.members) ≡ take l.place l.members
