use Rattle.std.proofs.Common.{◌≡◌, [], take, drop}
use Rattle.pv_references.specs.Names.{repeated_from}
use Rattle.pv_references.specs.Nodes.{nodes_lent}
use Rattle.pv_references.proofs.duplicates.first_duplicate.Given as goal

abbrev pub invariant-loop-place : goal.invariant-loop-place
invariant-loop-place l = repeated_from (nodes_lent (take l.place l.nodes)) (nodes_lent (drop l.place l.nodes)) ≡ repeated_from [] (nodes_lent l.nodes)
