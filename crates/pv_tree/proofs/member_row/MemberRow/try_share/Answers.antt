use Rattle.std.proofs.Common.{rules}
use Rattle.pv_tree.specs.Names.{same_distinct}
use Rattle.pv_tree.proofs.member_row.MemberRow.try_share.Goals as goal

pub returns-in-Ok : goal.returns-in-Ok
returns-in-Ok g c = same_distinct _ _ (search rules)
