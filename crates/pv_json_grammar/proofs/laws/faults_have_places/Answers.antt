use Rattle.pv_json_grammar.proofs.Readings.{bad_within}
use Rattle.pv_json_grammar.proofs.laws.faults_have_places.Goals as goal

pub returns : goal.returns
returns c = bad_within
