use Rattle.std.proofs.Common.{◌≡◌, drop}
use Rattle.pv_paths.specs.Following.{found, found_from}
use Rattle.pv_fields.proofs.directories.Directories.first_found.Given as goal

abbrev pub invariant-loop-path : goal.invariant-loop-path
invariant-loop-path l = (l.self.0 ≡ l.fn.self.0) × (found_from l.path (drop l.path l.paths) l.fn.self.0 ≡ found l.paths l.fn.self.0)
