use Rattle.std.proofs.Common.{rules, ◌≡◌, ◌+◌, drop, sym, ◌∙◌, ap}
use Rattle.pv_node.specs.Places.{slots_of}
use Rattle.pv_node.specs.Preorder.{count_at, slots_count}
use Rattle.pv_node.specs.Lending.{lent}
use Rattle.pv_node.proofs.Counts.{count_opens, counted_all, counted_more, counted_none, smaller}
use Rattle.pv_node.proofs.Lending.{lent_here, lent_past, written_here, written_none}
use Rattle.pv_node.proofs.counting.+count.Goals as goal

pub loop-place-init : goal.loop-place-init
loop-place-init t c = sym (count_opens c.args.node.now)

pub returns-in_default : goal.returns-in_default
returns-in_default t c =
    let past = lent_past c.slot.result (slots_of c.args.node.now) c.loop-place.place c.in_default.is c.slot.ensures in
    counted_all c.args.node.now c.loop-place.total c.loop-place.place past c.loop-place.invariant

pub count_nodes-requires : goal.count_nodes-requires
count_nodes-requires t c =
    let here = lent_here c.slot.result c.in-Some.slot (slots_of c.args.node.now) c.loop-place.place c.in-Some.is c.slot.ensures in
    let less = smaller c.args.node.now c.loop-place.place (lent c.in-Some.slot) c.in-Some-node.inner.now here (written_here c.in-Some.slot c.in-Some-node.inner c.in-Some-node.is) in
    search (rules, less)

pub loop-place-preserved-in_default-node : goal.loop-place-preserved-in_default-node
loop-place-preserved-in_default-node t c =
    let here = lent_here c.slot.result c.in-Some.slot (slots_of c.args.node.now) c.loop-place.place c.in-Some.is c.slot.ensures in
    counted_none c.args.node.now c.loop-place.total c.loop-place.place (lent c.in-Some.slot) here (written_none c.in-Some.slot c.in_default-node.is) c.loop-place.invariant

pub loop-place-preserved : goal.loop-place-preserved
loop-place-preserved t c =
    let here = lent_here c.slot.result c.in-Some.slot (slots_of c.args.node.now) c.loop-place.place c.in-Some.is c.slot.ensures in
    let inside = written_here c.in-Some.slot c.in-Some-node.inner c.in-Some-node.is in
    let n = c.args.node.now in
    let added : c.in_ok-total.total ≡ c.loop-place.total + c.in_ok-count_nodes.field-0 = c.in_ok-total.ensures in
    ap (λ total. total + slots_count (drop (c.loop-place.place + 1) (slots_of n))) added
    ∙ counted_more n c.loop-place.total c.loop-place.place c.in_ok-count_nodes.field-0 (lent c.in-Some.slot) here
    (c.in_ok-count_nodes.ensures ∙ sym (ap count_at inside)) c.loop-place.invariant
