use Rattle.std.proofs.Common.{◌≡◌, length}
use Rattle.pv_json_grammar.specs.Reading as spec
use Rattle.pv_json.proofs.symbols.behind.Given as goal

abbrev pub invariant-loop-word : goal.invariant-loop-word
invariant-loop-word l = spec.after l.word l.s ≡ spec.after l.fn.word l.fn.s

abbrev pub decreases-loop-word : goal.decreases-loop-word
decreases-loop-word l = length l.word
