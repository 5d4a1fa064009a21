use Rattle.std.proofs.Common.{◌≡◌, ◌+◌, drop, take}
use Rattle.std.specs.List.{flat_map}
use Rattle.std.specs.Str.{IsAscii}
use Rattle.pv_notation.specs.Strings.{escaped}
use Rattle.pv_json_grammar.specs.Strings as spec
use Rattle.pv_json.proofs.plain.ascii_len.Given as goal

abbrev pub invariant-loop-b : goal.invariant-loop-b
invariant-loop-b l = (l.n ≡ l.b-index) × (l.n + spec.plain (drop l.b-index l.s) ≡ spec.plain l.s)
    × (flat_map escaped (take l.b-index l.s) ≡ take l.b-index l.s) × IsAscii (take l.b-index l.s)
