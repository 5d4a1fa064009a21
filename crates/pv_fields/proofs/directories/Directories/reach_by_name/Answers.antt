use Rattle.std.proofs.Common.{rules}
use Rattle.pv_fields.proofs.Reaching.{reached_none}
use Rattle.pv_fields.proofs.directories.Directories.reach_by_name.Goals as goal

pub returns-in_default-clause-end : goal.returns-in_default-clause-end
returns-in_default-clause-end c = reached_none c.args.self.now.0 c.args.name.now c.args.rest.now (search rules)
