use Rattle.std.proofs.Common.{rules}
use Rattle.pv_fields.specs.Finding.{members_in}
use Rattle.pv_fields.proofs.Entering.{member_in}
use Rattle.pv_fields.proofs.Placing.{within}
use Rattle.pv_fields.proofs.Reaching.{value_none, value_some}
use Rattle.pv_fields.proofs.directory.Directory.member.Goals as goal

pub returns-in_default-clause-value : goal.returns-in_default-clause-value
returns-in_default-clause-value c = value_none c.args.self.now c.args.name.now c.in_ok-place.field-0 (search rules) (search rules)

pub returns-clause-value : goal.returns-clause-value
returns-clause-value c = value_some c.args.self.now c.args.name.now c.in_ok-place.field-0 (search rules) _ c.self.inside.members.now _ (search rules) (search rules)

pub returns-clause-inside : goal.returns-clause-inside
returns-clause-inside c = member_in c.args.self.now c.self.inside.members.now _ _ (search rules) (within c.self.inside.members.now (members_in c.args.self.now) c.args.name.now c.in_ok-place.field-0 _ (search rules) c.in-Some.is (search rules))
