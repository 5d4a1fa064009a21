use Rattle.std.proofs.Common.{rules}
use Rattle.pv_collect.proofs.Finishing.{made_entries}
use Rattle.pv_collect.proofs.entries.KeptEntries.finish.Goals as goal

pub returns : goal.returns
returns c =
    made_entries c.args.rule.now c.args.self c.self.inside.entries.items c.in_ok-entries.entries.items c.from_vec.result
    c.self.inside.tally.grade c.self.inside.tally.count c.len-count.result c.in_ok-fault.fault c.fitting.result
    c.self.view_is c.in_ok-entries.ensures (search rules) c.in_ok-fault.ensures c.from_vec.ensures c.fitting.ensures
