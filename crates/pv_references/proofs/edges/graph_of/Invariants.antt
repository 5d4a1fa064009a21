use Rattle.std.proofs.Common.{◌≡◌, take}
use Rattle.pv_references.proofs.edges.graph_of.Given as goal

abbrev pub invariant-loop-place : goal.invariant-loop-place
invariant-loop-place l = l.graph ≡ take l.place l.rows.items
