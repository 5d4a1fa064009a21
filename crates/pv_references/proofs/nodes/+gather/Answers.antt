use Rattle.std.proofs.Common.{rules, refl}
use Rattle.pv_node.specs.Places.{slots_of}
use Rattle.pv_node.specs.Lending.{lent}
use Rattle.pv_node.proofs.Counts.{smaller}
use Rattle.pv_node.proofs.Lending.{lent_here, lent_past, written_here, written_none}
use Rattle.pv_references.proofs.Listed.{first_node, node_none, node_more, nodes_all}
use Rattle.pv_references.proofs.nodes.+gather.Goals as goal

pub loop-place-init : goal.loop-place-init
loop-place-init t c = first_node c.args.node.now c.args.all.now.items c.push.new.self.items c.args.node refl c.in_ok-push.ensures.items

pub returns-in_default : goal.returns-in_default
returns-in_default t c =
    let past = lent_past c.slot.result (slots_of c.args.node.now) c.loop-place.place c.in_default.is c.slot.ensures in
    nodes_all c.args.node.now c.args.all.now.items c.loop-place.all.items c.loop-place.place past c.loop-place.invariant

pub add_nodes-requires : goal.add_nodes-requires
add_nodes-requires t c =
    let here = lent_here c.slot.result c.in-Some.slot (slots_of c.args.node.now) c.loop-place.place c.in-Some.is c.slot.ensures in
    let less = smaller c.args.node.now c.loop-place.place (lent c.in-Some.slot) c.in-Some-node.inner.now here (written_here c.in-Some.slot c.in-Some-node.inner c.in-Some-node.is) in
    search (rules, less)

pub loop-place-preserved-in_default-node : goal.loop-place-preserved-in_default-node
loop-place-preserved-in_default-node t c =
    let here = lent_here c.slot.result c.in-Some.slot (slots_of c.args.node.now) c.loop-place.place c.in-Some.is c.slot.ensures in
    node_none c.args.node.now c.args.all.now.items c.loop-place.all.items c.loop-place.place (lent c.in-Some.slot) here (written_none c.in-Some.slot c.in_default-node.is) c.loop-place.invariant

pub loop-place-preserved : goal.loop-place-preserved
loop-place-preserved t c =
    let here = lent_here c.slot.result c.in-Some.slot (slots_of c.args.node.now) c.loop-place.place c.in-Some.is c.slot.ensures in
    let inside = written_here c.in-Some.slot c.in-Some-node.inner c.in-Some-node.is in
    node_more c.args.node.now c.args.all.now.items c.loop-place.all.items c.add_nodes.new.all.items c.loop-place.place (lent c.in-Some.slot) c.in-Some-node.inner.now here inside
    c.loop-place.invariant c.in_ok-add_nodes.ensures
