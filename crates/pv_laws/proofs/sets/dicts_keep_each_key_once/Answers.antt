use Rattle.pv_laws.proofs.Keeping.{last_values}
use Rattle.pv_laws.proofs.sets.dicts_keep_each_key_once.Goals as goal

pub returns-clause-values : goal.returns-clause-values
returns-clause-values c = last_values
