use Rattle.std.proofs.Common.{rules, arith}
use Rattle.std.proofs.lemmas.Option.{slice_get_within}
use Rattle.pv_node.specs.Places.{slots_of}
use Rattle.pv_node.specs.Lending.{lent}
use Rattle.pv_node.specs.References.{has_name}
use Rattle.pv_node.proofs.Counts.{smaller}
use Rattle.pv_node.proofs.Few.{few}
use Rattle.pv_node.proofs.Found.{first_here, first_within, none_here, none_held, none_left, none_within}
use Rattle.pv_node.proofs.Lending.{lent_here, lent_past, written_here, written_none}
use Rattle.pv_node.proofs.finding.+named.Goals as goal
use Rattle.pv_node.proofs.finding.+named.Goals.{in-Some-node+in_default-first_named, in_default-node}

pub returns-then-is_named : goal.returns-then-is_named
returns-then-is_named t c = first_here (has_name c.args.name.now) c.args.node.now c.is_named.result c.is_named.ensures c.if-is_named.true

pub loop-slot-init : goal.loop-slot-init
loop-slot-init t c = none_here (has_name c.args.name.now) c.args.node.now c.is_named.result c.is_named.ensures c.if-is_named.false

pub first_named-requires : goal.first_named-requires
first_named-requires t c =
    let here = lent_here c.slot.result c.in-Some.slot (slots_of c.args.node.now) c.loop-slot.place c.in-Some.is c.slot.ensures in
    let inside = written_here c.in-Some.slot c.in-Some-node.inner c.in-Some-node.is in
    let less = smaller c.args.node.now c.loop-slot.place (lent c.in-Some.slot) c.in-Some-node.inner.now here inside in
    (search (rules, less), omega arith)

pub overflow_add-place : goal.overflow_add-place
overflow_add-place t c =
    let here = lent_here c.slot.result c.in-Some.slot (slots_of c.args.node.now) c.loop-slot.place c.in-Some.is c.slot.ensures in
    let small = few c.args.node.now c.loop-slot.place (lent c.in-Some.slot) here in
    omega arith

pub loop-slot-smaller : goal.loop-slot-smaller
loop-slot-smaller t c =
    let here = lent_here c.slot.result c.in-Some.slot (slots_of c.args.node.now) c.loop-slot.place c.in-Some.is c.slot.ensures in
    let within = slice_get_within (slots_of c.args.node.now) c.loop-slot.place (lent c.in-Some.slot) here in
    omega arith

pub returns-in-Some-first_named : goal.returns-in-Some-first_named
returns-in-Some-first_named t c =
    let here = lent_here c.slot.result c.in-Some.slot (slots_of c.args.node.now) c.loop-slot.place c.in-Some.is c.slot.ensures in
    let inside = written_here c.in-Some.slot c.in-Some-node.inner c.in-Some-node.is in
    first_within (has_name c.args.name.now) c.args.node.now c.loop-slot.place (lent c.in-Some.slot) c.in-Some-node.inner.now c.first_named.result c.in-Some-first_named.found
    here inside c.first_named.ensures c.in-Some-first_named.is c.loop-slot.invariant

pub loop-slot-preserved : goal.loop-slot-preserved
loop-slot-preserved t c =
    let here = lent_here c.slot.result c.in-Some.slot (slots_of c.args.node.now) c.loop-slot.place c.in-Some.is c.slot.ensures in
    elim c.match-slot-2.branch [
      | in-Some-node+in_default-first_named w ↦
          none_within (has_name c.args.name.now) c.args.node.now c.loop-slot.place (lent c.in-Some.slot) w.in-Some-node.inner.now w.first_named.result
          here (written_here c.in-Some.slot w.in-Some-node.inner w.in-Some-node.is) w.first_named.ensures w.in_default-first_named.is c.loop-slot.invariant
      | in_default-node w ↦
          none_held (has_name c.args.name.now) c.args.node.now c.loop-slot.place (lent c.in-Some.slot) here (written_none c.in-Some.slot w.in_default-node.is) c.loop-slot.invariant
    ]

pub returns : goal.returns
returns t c =
    let past = lent_past c.slot.result (slots_of c.args.node.now) c.loop-slot.place c.in_default.is c.slot.ensures in
    none_left (has_name c.args.name.now) c.args.node.now c.loop-slot.place past c.loop-slot.invariant
