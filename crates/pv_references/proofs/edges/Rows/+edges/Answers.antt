use Rattle.std.proofs.Common.{rules, sym}
use Rattle.std.proofs.lemmas.List.{append-nil}
use Rattle.pv_node.specs.Places.{slots_of}
use Rattle.pv_node.specs.Lending.{lent}
use Rattle.pv_node.proofs.Counts.{count_in_slot}
use Rattle.pv_node.proofs.Lending.{lent_here, written_none}
use Rattle.pv_references.specs.Edges.{graph_from}
use Rattle.pv_references.proofs.Rows.{laid, rows_more, row_more, rows_none}
use Rattle.pv_references.proofs.edges.Rows.+edges.Goals as goal

pub add_rows-returns : goal.add_rows-returns
add_rows-returns t c =
    laid c.args.self.now.names.now c.args.node.now _ _ _ _ _ _ _ _ _ c.size-at.ensures c.in_ok-push.ensures.items c.in_ok-add_slots.ensures.rows
    c.new-row.ensures c.in_ok-add_slots.ensures.row c.in_ok-add_target.ensures c.settle.ensures

pub add_slots-loop-place-init : goal.add_slots-loop-place-init
unfolding graph_from
add_slots-loop-place-init t c = record { rows = sym (append-nil c.args.rows.now.items); row = sym (append-nil c.args.row.now) }

pub add_slots-add_slot-requires : goal.add_slots-add_slot-requires
add_slots-add_slot-requires t c =
    let here = lent_here c.slot.result c.in-Some.slot (slots_of c.args.node.now) c.loop-place.place c.in-Some.is c.slot.ensures in
    let less = count_in_slot c.args.node.now c.loop-place.place (lent c.in-Some.slot) here in
    search (rules, less)

pub add_slots-loop-place-preserved : goal.add_slots-loop-place-preserved
add_slots-loop-place-preserved t c =
    let root = c.args.self.now.names.now in
    let ss = slots_of c.args.node.now in
    let here = lent_here c.slot.result c.in-Some.slot ss c.loop-place.place c.in-Some.is c.slot.ensures in
    record {
      rows = rows_more root c.args.rows.now.items c.loop-place.rows.items c.add_slot.new.rows.items ss c.loop-place.place (lent c.in-Some.slot) here c.loop-place.invariant.rows c.in_ok-add_slot.ensures.rows;
      row = row_more root c.args.rows.now.items c.loop-place.rows.items c.args.row.now c.loop-place.row c.add_slot.new.row ss c.loop-place.place (lent c.in-Some.slot) here
          c.loop-place.invariant.rows c.loop-place.invariant.row c.in_ok-add_slot.ensures.row;
    }

pub add_slot-returns-in-None-clause-rows : goal.add_slot-returns-in-None-clause-rows
add_slot-returns-in-None-clause-rows t c = rows_none c.args.self.now.names.now c.args.rows.now.items (lent c.args.slot.now) (written_none c.args.slot.now c.in-None.is)
