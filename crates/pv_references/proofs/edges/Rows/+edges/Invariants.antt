use Rattle.std.proofs.Common.{◌≡◌, ◌+◌, ◌*◌, ◌++◌, length, take}
use Rattle.pv_node.specs.Places.{slots_of}
use Rattle.pv_node.specs.Preorder.{node_count, count_at}
use Rattle.pv_node.specs.Lending.{lent}
use Rattle.pv_references.specs.Edges.{graph_from, staying}
use Rattle.pv_references.proofs.Listed.{inside}
use Rattle.pv_references.proofs.edges.Rows.+edges.Given as goal

abbrev pub decreases-add_rows : goal.decreases-add_rows
decreases-add_rows l = 3 * node_count l.node.now + 2

abbrev pub decreases-add_slots : goal.decreases-add_slots
decreases-add_slots l = 3 * node_count l.node.now + 1

abbrev pub decreases-add_slot : goal.decreases-add_slot
decreases-add_slot l = 3 * count_at (lent l.slot.now).node + 3

abbrev pub invariant-add_slots-loop-place : goal.invariant-add_slots-loop-place
invariant-add_slots-loop-place l = record {
  rows : l.rows.items ≡ l.initial.rows.items ++ graph_from l.self.names.now (length l.initial.rows.items) (inside (take l.place (slots_of l.node)));
  row : l.row ≡ l.initial.row ++ staying (length l.initial.rows.items) (take l.place (slots_of l.node));
}
