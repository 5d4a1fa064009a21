use Rattle.pv_json_grammar.proofs.Readings.{reading_complete}
use Rattle.pv_json_grammar.proofs.laws.documents_are_read.Goals as goal

pub returns : goal.returns
returns c = reading_complete
