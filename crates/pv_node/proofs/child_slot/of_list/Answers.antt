use Rattle.pv_node.specs.Lending.{steps}
use Rattle.pv_node.proofs.Lending.{listed_here, listed_past}
use Rattle.pv_node.proofs.child_slot.of_list.Goals as goal

pub returns-in-Some : goal.returns-in-Some
returns-in-Some c to same =
    listed_here c.args.nodes.now c.get.result c.in-Some.node c.args.edge c.args.place (steps c.args.path) to c.in-Some.is c.get.ensures.value same

pub returns-in-None : goal.returns-in-None
returns-in-None c to same = listed_past c.args.nodes.now c.get.result c.args.edge c.args.place to c.in-None.is c.get.ensures.value
