use Rattle.std.proofs.Common.{◌≡◌, ◌+◌, ◌*◌, ◌++◌, length, take, drop}
use Rattle.std.specs.List.{flat_map}
use Rattle.pv_node.specs.Places.{Path, places_in, slots_of}
use Rattle.pv_node.specs.Preorder.{node_count, count_at, first_in}
use Rattle.pv_node.specs.Lending.{lent}
use Rattle.pv_plan.specs.Layout.{table_from, numbers}
use Rattle.pv_plan.specs.BadPatterns.{bad_in}
use Rattle.pv_plan.proofs.laying.Laying.+lay.Given as goal

abbrev pub decreases-lay : goal.decreases-lay
decreases-lay l = 3 * node_count l.node.now + 2

abbrev pub decreases-lay_children : goal.decreases-lay_children
decreases-lay_children l = 3 * node_count l.node.now + 1

abbrev pub decreases-lay_slot : goal.decreases-lay_slot
decreases-lay_slot l = 3 * count_at (lent l.slot.now).node + 3

abbrev pub invariant-lay_children-loop-place : goal.invariant-lay_children-loop-place
invariant-lay_children-loop-place l = record {
  table : (p : Path) → l.table.items ≡ l.initial.table.items ++ table_from l.self.names.now l.self.last (length l.initial.table.items) (flat_map (places_in p l.settings) (take l.place (slots_of l.node)));
  numbers : l.all ≡ l.initial.all ++ numbers l.self.last (length l.initial.table.items) (take l.place (slots_of l.node));
  pattern : first_in bad_in (drop l.place (slots_of l.node)) ≡ first_in bad_in (slots_of l.node);
}
