use Rattle.std.proofs.Common.{rules}
use Rattle.pv_tree.specs.Merging.{object_of}
use Rattle.pv_tree.proofs.Told.{told}
use Rattle.pv_tree.proofs.making.merge_members.Goals as goal

pub returns : goal.returns
returns c = told c.from_vec.result (object_of c.args.members.items) _ c.from_vec.ensures (search rules)
