use Rattle.pv_json_grammar.proofs.Readings.{reading_sound}
use Rattle.pv_json_grammar.proofs.laws.documents_are_spelled.Goals as goal

pub returns : goal.returns
returns c = reading_sound
