use Rattle.std.proofs.Common.{rules, [], length, refl, sym}
use Rattle.std.proofs.lemmas.List.{append-nil}
use Rattle.pv_node.specs.Places.{slots_of}
use Rattle.pv_node.specs.Lending.{lent}
use Rattle.pv_node.proofs.Counts.{count_in_slot}
use Rattle.pv_node.proofs.Lending.{lent_here, lent_past, written_none}
use Rattle.pv_plan.specs.Layout.{table_from}
use Rattle.pv_plan.proofs.Tables.{laid, laid_more, laid_all, laid_none, numbers_more, numbers_all, first_more, first_past, later}
use Rattle.pv_plan.proofs.Searching.{first_fails}
use Rattle.pv_plan.proofs.laying.Laying.+lay.Goals as goal

pub lay-settle-requires : goal.lay-settle-requires
lay-settle-requires t c =
    later c.args.self.now.names.now c.args.self.now.last _ _ _ _ _ _ c.size-at.ensures (c.in_ok-reserve.ensures.table []) (c.in_ok-lay_children.ensures.table [])

pub lay-returns-clause-table : goal.lay-returns-clause-table
lay-returns-clause-table t c p =
    laid c.args.self.now.names.now c.args.self.now.last p c.args.settings.now c.settings-inside.result.now c.args.node.now _ _ _ _ _ _ _ _ c.settings-inside.ensures c.size-at.ensures (c.in_ok-reserve.ensures.table p)
    (c.in_ok-lay_children.ensures.table p) c.new-children.ensures c.in_ok-lay_children.ensures.numbers c.in_ok-add_target.ensures.number c.settle.ensures

pub lay_children-loop-place-init : goal.lay_children-loop-place-init
unfolding table_from
lay_children-loop-place-init t c = record { table = λ p. sym (append-nil c.args.table.now.items); numbers = sym (append-nil c.args.all.now); pattern = refl }

pub lay_children-returns-in_default-clause-table : goal.lay_children-returns-in_default-clause-table
lay_children-returns-in_default-clause-table t c p =
    let past = lent_past c.slot.result (slots_of c.args.node.now) c.loop-place.place c.in_default.is c.slot.ensures in
    laid_all c.args.self.now.names.now c.args.self.now.last p c.args.settings.now c.args.table.now.items c.loop-place.table.items (slots_of c.args.node.now) c.loop-place.place past (c.loop-place.invariant.table p)

pub lay_children-returns-in_default-clause-numbers : goal.lay_children-returns-in_default-clause-numbers
lay_children-returns-in_default-clause-numbers t c =
    let past = lent_past c.slot.result (slots_of c.args.node.now) c.loop-place.place c.in_default.is c.slot.ensures in
    numbers_all c.args.self.now.names.now c.args.self.now.last (length c.args.table.now.items) c.args.all.now c.loop-place.all (slots_of c.args.node.now) c.loop-place.place past c.loop-place.invariant.numbers

pub lay_children-returns-in_default-clause-pattern : goal.lay_children-returns-in_default-clause-pattern
lay_children-returns-in_default-clause-pattern t c =
    let past = lent_past c.slot.result (slots_of c.args.node.now) c.loop-place.place c.in_default.is c.slot.ensures in
    first_past (slots_of c.args.node.now) c.loop-place.place past c.loop-place.invariant.pattern

pub lay_children-lay_slot-requires : goal.lay_children-lay_slot-requires
lay_children-lay_slot-requires t c =
    let here = lent_here c.slot.result c.in-Some.slot (slots_of c.args.node.now) c.loop-place.place c.in-Some.is c.slot.ensures in
    let less = count_in_slot c.args.node.now c.loop-place.place (lent c.in-Some.slot) here in
    search (rules, less)

pub lay_children-returns-in_err-lay_slot-clause-pattern : goal.lay_children-returns-in_err-lay_slot-clause-pattern
lay_children-returns-in_err-lay_slot-clause-pattern t c =
    let here = lent_here c.slot.result c.in-Some.slot (slots_of c.args.node.now) c.loop-place.place c.in-Some.is c.slot.ensures in
    let fails = first_fails (slots_of c.args.node.now) c.loop-place.place (lent c.in-Some.slot) c.in_err-lay_slot.field-0.0 here c.loop-place.invariant.pattern c.in_err-lay_slot.ensures.pattern in
    search (rules, fails)

pub lay_children-loop-place-preserved : goal.lay_children-loop-place-preserved
lay_children-loop-place-preserved t c =
    let ss = slots_of c.args.node.now in
    let here = lent_here c.slot.result c.in-Some.slot ss c.loop-place.place c.in-Some.is c.slot.ensures in
    record {
      table = λ p. laid_more c.args.self.now.names.now c.args.self.now.last p c.args.settings.now c.args.table.now.items c.loop-place.table.items c.lay_slot.new.table.items ss c.loop-place.place (lent c.in-Some.slot) here
          (c.loop-place.invariant.table p) (c.in_ok-lay_slot.ensures.table p);
      numbers = numbers_more c.args.self.now.names.now c.args.self.now.last c.args.settings.now c.args.table.now.items c.loop-place.table.items c.args.all.now c.loop-place.all c.lay_slot.new.all ss c.loop-place.place
          (lent c.in-Some.slot) here (c.loop-place.invariant.table []) c.loop-place.invariant.numbers c.in_ok-lay_slot.ensures.number;
      pattern = first_more ss c.loop-place.place (lent c.in-Some.slot) _ here c.in_ok-lay_slot.ensures.pattern c.loop-place.invariant.pattern;
    }

pub lay_slot-returns-in_default-clause-table : goal.lay_slot-returns-in_default-clause-table
lay_slot-returns-in_default-clause-table t c p =
    laid_none c.args.self.now.names.now c.args.self.now.last p c.args.settings.now c.args.table.now.items (lent c.args.slot.now) (written_none c.args.slot.now c.in_default.is)
