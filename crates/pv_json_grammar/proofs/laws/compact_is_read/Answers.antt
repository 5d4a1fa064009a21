use Rattle.pv_json_grammar.proofs.CompactSpelled.{document_tree_spelled}
use Rattle.pv_json_grammar.proofs.laws.compact_is_read.Goals as goal

pub returns : goal.returns
returns c = document_tree_spelled
