use Rattle.std.proofs.Common.{◌∙◌, Ok, sym, ap, rules}
use Rattle.pv_json_grammar.proofs.Utf8Kept.{string_utf8}
use Rattle.pv_json.proofs.Suffixes.{string_behind}
use Rattle.pv_json.proofs.strings.text.Goals as goal

pub from_utf8-requires : goal.from_utf8-requires
from_utf8-requires c = rw c.into_vec.ensures (string_utf8 c.args.s.now (c.in_ok-bytes.bytes, c.in_ok-bytes.rest.now) (search rules))

pub returns : goal.returns
returns c =
    string_behind c.args.s.now c.in_ok-bytes.bytes c.in_ok-bytes.rest.now c.after-2.result (search rules) (search rules)
    ∙ ap (λ t. Ok (t, c.after-2.result)) (sym (c.in_ok-text-2.ensures ∙ c.into_vec.ensures))
