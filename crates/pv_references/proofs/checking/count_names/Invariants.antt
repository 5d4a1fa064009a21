use Rattle.std.proofs.Common.{◌≡◌, ◌+◌, length, drop}
use Rattle.pv_references.specs.Names.{names_in}
use Rattle.pv_references.specs.Nodes.{nodes_lent}
use Rattle.pv_references.proofs.checking.count_names.Given as goal

abbrev pub invariant-loop-place : goal.invariant-loop-place
invariant-loop-place l = l.count + length (names_in (nodes_lent (drop l.place l.nodes))) ≡ length (names_in (nodes_lent l.nodes))
