use Rattle.std.proofs.Common.{◌≡◌, ◌-◌, length, []}
use Rattle.pv_json_grammar.specs.Strings as spec
use Rattle.pv_json.proofs.strings.characters.Given as goal

abbrev pub invariant-loop-i : goal.invariant-loop-i
invariant-loop-i l = spec.string_from (length l.s - l.i) l.out l.rest ≡ spec.string_from (length l.s) [] l.s
