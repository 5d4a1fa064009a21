use Rattle.std.proofs.Common.{rules}
use Rattle.pv_collect.proofs.Finishing.{made_items}
use Rattle.pv_collect.proofs.items.KeptItems.finish.Goals as goal

pub returns : goal.returns
returns c =
    made_items c.args.rule.now c.args.items c.args.self c.self.inside.values.items c.in_ok-values.values.items c.from_vec.result c.made_of.result
    c.self.inside.tally.grade c.self.inside.tally.count c.len.result c.in_ok-fault.fault c.fitting.result
    c.self.view_is c.in_ok-values.ensures (search rules) c.in_ok-fault.ensures c.from_vec.ensures c.made_of.ensures c.fitting.ensures
