use Rattle.std.proofs.Common.{rules}
use Rattle.pv_fields.proofs.Entering.{placed_pushed, number_last}
use Rattle.pv_fields.proofs.directories.Directories.add.Goals as goal

pub invariant_of-self-2 : goal.invariant_of-self-2
invariant_of-self-2 c =
    placed_pushed c.self.inside.whole c.args.part.tree.now c.args.self.now c.self.inside.inside.items c.push.new.self.items
    (record { from = c.args.from; place = c.args.part.place; directory = c.new.result }) c.self.view_is (search rules) c.new.ensures c.requires c.self.invariant

pub returns-clause-number : goal.returns-clause-number
returns-clause-number c =
    number_last c.len-number.result c.args.part.tree.now c.self.inside.inside.items c.push.new.self.items
    (record { from = c.args.from; place = c.args.part.place; directory = c.new.result }) (search rules) (search rules) c.new.ensures
