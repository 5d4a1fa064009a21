use Rattle.std.proofs.Common.{◌≡◌, drop, bytes_eq}
use Rattle.std.specs.List.{position_from}
use Rattle.pv_tree.specs.Merging.{place_of}
use Rattle.pv_fields.proofs.directory.scan.Given as goal

abbrev pub invariant-loop-place : goal.invariant-loop-place
invariant-loop-place l = position_from (λ m. bytes_eq l.name m.0) l.place (drop l.place l.members) ≡ place_of l.members l.name
