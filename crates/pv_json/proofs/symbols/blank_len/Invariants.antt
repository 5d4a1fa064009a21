use Rattle.std.proofs.Common.{◌≡◌, drop}
use Rattle.pv_json_grammar.specs.Reading as spec
use Rattle.pv_json.proofs.symbols.blank_len.Given as goal

abbrev pub invariant-loop-b : goal.invariant-loop-b
invariant-loop-b l = (l.n ≡ l.b-index) × (spec.skip (drop l.b-index l.s) ≡ spec.skip l.s)
