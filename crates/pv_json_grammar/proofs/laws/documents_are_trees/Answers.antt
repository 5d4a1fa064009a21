use Rattle.pv_json_grammar.proofs.SpelledTrees.{document_tree}
use Rattle.pv_json_grammar.proofs.laws.documents_are_trees.Goals as goal

pub returns : goal.returns
returns c = document_tree
