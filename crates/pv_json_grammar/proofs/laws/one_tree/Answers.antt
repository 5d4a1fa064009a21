use Rattle.pv_json_grammar.proofs.ValueComplete.{same_tree}
use Rattle.pv_json_grammar.proofs.laws.one_tree.Goals as goal

pub returns : goal.returns
returns c = same_tree
