use Rattle.std.proofs.Common.{◌≡◌, drop}
use Rattle.pv_paths.specs.Following.{found, found_from}
use Rattle.pv_paths.proofs.following.first_found.Given as goal

abbrev pub invariant-loop-path : goal.invariant-loop-path
invariant-loop-path l = found_from l.path (drop l.path l.paths) l.tree ≡ found l.paths l.tree
