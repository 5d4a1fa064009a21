use Rattle.pv_references.specs.Nodes.{nodes_lent}
use Rattle.pv_references.proofs.Marking.{no_cycle, chain_told, cycle_named}
use Rattle.pv_references.proofs.checking.check_cycles.Goals as goal

pub returns-in-Absent-clause-reason : goal.returns-in-Absent-clause-reason
returns-in-Absent-clause-reason c = no_cycle c.args.names.now c.in_ok-graph.graph c.in_ok-graph.ensures c.in_ok-longest.field-0 c.in_ok-longest.ensures.answer c.in-Absent.longest c.in-Absent.is

pub returns-in-Absent-clause-chain : goal.returns-in-Absent-clause-chain
returns-in-Absent-clause-chain c = chain_told c.args.names.now c.in_ok-graph.graph c.in_ok-graph.ensures c.in_ok-longest.field-0 c.in_ok-longest.ensures.answer c.in-Absent.longest c.in-Absent.is

pub returns-clause-reason : goal.returns-clause-reason
returns-clause-reason c =
    cycle_named c.args.names.now c.in_ok-graph.graph c.in_ok-graph.ensures c.in_ok-longest.field-0 c.in_ok-longest.ensures.answer c.in-Present.flags c.as_slice.result.now
    (nodes_lent c.args.nodes.now) c.empty_cycle.result c.in-Present.is c.as_slice.ensures.value c.requires c.empty_cycle.ensures
