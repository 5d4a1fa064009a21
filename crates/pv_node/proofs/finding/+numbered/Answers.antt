use Rattle.std.proofs.Common.{rules, arith}
use Rattle.std.proofs.lemmas.Option.{slice_get_within}
use Rattle.pv_node.specs.Places.{slots_of}
use Rattle.pv_node.specs.Lending.{lent}
use Rattle.pv_node.proofs.Counts.{smaller}
use Rattle.pv_node.proofs.Few.{few}
use Rattle.pv_node.proofs.Found.{count_all, number_behind, number_here, number_passed, number_past, number_skipped, number_within}
use Rattle.pv_node.proofs.Lending.{lent_here, lent_past, written_here, written_none}
use Rattle.pv_node.proofs.finding.+numbered.Goals as goal
use Rattle.pv_node.proofs.finding.+numbered.Goals.{in-Some-node+in_default-node_behind, in_default-node}

pub returns-then-left-eq0-clause-found : goal.returns-then-left-eq0-clause-found
returns-then-left-eq0-clause-found t c = number_here c.args.node.now c.args.left.now c.if-left-eq0.true

pub loop-slot-init : goal.loop-slot-init
loop-slot-init t c = number_behind c.args.node.now c.args.left.now _ (omega arith)

pub node_behind-requires : goal.node_behind-requires
node_behind-requires t c =
    let here = lent_here c.slot.result c.in-Some.slot (slots_of c.args.node.now) c.loop-slot.place c.in-Some.is c.slot.ensures in
    let inside = written_here c.in-Some.slot c.in-Some-node.inner c.in-Some-node.is in
    let less = smaller c.args.node.now c.loop-slot.place (lent c.in-Some.slot) c.in-Some-node.inner.now here inside in
    (search (rules, less), omega arith)

pub overflow_add-place : goal.overflow_add-place
overflow_add-place t c =
    let here = lent_here c.slot.result c.in-Some.slot (slots_of c.args.node.now) c.loop-slot.place c.in-Some.is c.slot.ensures in
    let small = few c.args.node.now c.loop-slot.place (lent c.in-Some.slot) here in
    omega arith

pub loop-slot-smaller : goal.loop-slot-smaller
loop-slot-smaller t c =
    let here = lent_here c.slot.result c.in-Some.slot (slots_of c.args.node.now) c.loop-slot.place c.in-Some.is c.slot.ensures in
    let within = slice_get_within (slots_of c.args.node.now) c.loop-slot.place (lent c.in-Some.slot) here in
    omega arith

pub returns-in-Some-node_behind-clause-found : goal.returns-in-Some-node_behind-clause-found
returns-in-Some-node_behind-clause-found t c =
    let here = lent_here c.slot.result c.in-Some.slot (slots_of c.args.node.now) c.loop-slot.place c.in-Some.is c.slot.ensures in
    let inside = written_here c.in-Some.slot c.in-Some-node.inner c.in-Some-node.is in
    number_within c.args.node.now c.args.left.now c.loop-slot.left c.loop-slot.place (lent c.in-Some.slot) c.in-Some-node.inner.now c.node_behind.result c.in-Some-node_behind.found
    here inside c.node_behind.ensures.found c.in-Some-node_behind.is c.loop-slot.invariant

pub loop-slot-preserved : goal.loop-slot-preserved
loop-slot-preserved t c =
    let here = lent_here c.slot.result c.in-Some.slot (slots_of c.args.node.now) c.loop-slot.place c.in-Some.is c.slot.ensures in
    elim c.match-slot-2.branch [
      | in-Some-node+in_default-node_behind w ↦
          let rest = w.node_behind.ensures.passed w.in_default-node_behind.is in
          let same = w.left-is in
          number_passed c.args.node.now c.args.left.now c.loop-slot.left c.match-slot-2.left c.loop-slot.place (lent c.in-Some.slot) w.in-Some-node.inner.now
          here (written_here c.in-Some.slot w.in-Some-node.inner w.in-Some-node.is) (omega arith) c.loop-slot.invariant
      | in_default-node w ↦
          let same = w.left-is in
          number_skipped c.args.node.now c.args.left.now c.loop-slot.left c.match-slot-2.left c.loop-slot.place (lent c.in-Some.slot)
          here (written_none c.in-Some.slot w.in_default-node.is) (omega arith) c.loop-slot.invariant
    ]

pub returns-clause-found : goal.returns-clause-found
returns-clause-found t c =
    let past = lent_past c.slot.result (slots_of c.args.node.now) c.loop-slot.place c.in_default.is c.slot.ensures in
    number_past c.args.node.now c.args.left.now c.loop-slot.left c.loop-slot.place past c.loop-slot.invariant

pub returns-clause-passed : goal.returns-clause-passed
returns-clause-passed t c =
    let past = lent_past c.slot.result (slots_of c.args.node.now) c.loop-slot.place c.in_default.is c.slot.ensures in
    λ e. count_all c.args.node.now c.args.left.now c.loop-slot.left c.loop-slot.place past c.loop-slot.invariant
