use Rattle.std.proofs.Common.{◌≡◌, drop}
use Rattle.pv_tree.specs.Merged.{value_at}
use Rattle.pv_paths.proofs.following.member.Given as goal

abbrev pub invariant-loop-known : goal.invariant-loop-known
invariant-loop-known l = value_at (drop l.known-index l.members) l.name ≡ value_at l.members l.name
