use Rattle.pv_json_grammar.proofs.StringSound.{string_sound}
use Rattle.pv_json_grammar.proofs.Utf8Kept.{string_utf8}
use Rattle.pv_json_grammar.proofs.laws.strings_are_spelled.Goals as goal

pub returns-clause-spelled : goal.returns-clause-spelled
returns-clause-spelled c = λ tail bytes rest e. string_sound tail (bytes, rest) e

pub returns-clause-utf8 : goal.returns-clause-utf8
returns-clause-utf8 c = λ tail bytes rest e. string_utf8 tail (bytes, rest) e
