use Rattle.pv_json_grammar.proofs.Quoted.{quoted_spelled}
use Rattle.pv_json_grammar.proofs.laws.quoted_is_spelled.Goals as goal

pub returns : goal.returns
returns c = quoted_spelled
