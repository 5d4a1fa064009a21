use Rattle.std.proofs.Common.{take}
use Rattle.pv_references.specs.Nodes.{IsNumbering, nodes_lent}
use Rattle.pv_references.proofs.names.numbers_of.Given as goal

abbrev pub invariant-loop-place : goal.invariant-loop-place
invariant-loop-place l = IsNumbering l.numbers (nodes_lent (take l.place l.nodes))
