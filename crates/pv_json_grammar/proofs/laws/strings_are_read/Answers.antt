use Rattle.pv_json_grammar.proofs.Utf8Kept.{string_complete}
use Rattle.pv_json_grammar.proofs.laws.strings_are_read.Goals as goal

pub returns : goal.returns
returns c = string_complete
