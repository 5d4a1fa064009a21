use Rattle.std.proofs.Common.{rules}
use Rattle.std.proofs.lemmas.List.{take_all}
use Rattle.pv_tree.proofs.Told.{told}
use Rattle.pv_tree.proofs.+share.Goals as goal

pub making::share_members-returns : goal.making::share_members-returns
making::share_members-returns t c = told c.from_vec.result c.args.members.now _ c.from_vec.ensures (search (take_all, rules))
