use Rattle.std.proofs.Common.{◌≡◌, drop}
use Rattle.std.specs.Prelude.{bytes_eq}
use Rattle.std.specs.List.{position_from}
use Rattle.pv_tree.specs.Merging.{place_of}
use Rattle.pv_tree.proofs.merging.is_among.Given as goal

abbrev pub invariant-loop-known : goal.invariant-loop-known
invariant-loop-known g l = position_from (λ m. bytes_eq l.name m.0) l.known-index (drop l.known-index l.members) ≡ place_of l.members l.name
