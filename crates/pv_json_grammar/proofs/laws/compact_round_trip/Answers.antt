use Rattle.pv_json_grammar.proofs.SpelledTrees.{round_trip}
use Rattle.pv_json_grammar.proofs.laws.compact_round_trip.Goals as goal

pub returns : goal.returns
returns c = round_trip
