use Rattle.std.proofs.Common.{◌≡◌, ◌++◌, take}
use Rattle.std.specs.List.{flat_map}
use Rattle.pv_notation.specs.Strings.{escaped}
use Rattle.pv_notation.proofs.Escapes.{IsRun}
use Rattle.pv_notation.proofs.strings.append_escaped.Given as goal

abbrev pub invariant-loop-place : goal.invariant-loop-place
invariant-loop-place l = (l.out ≡ l.fn.out ++ flat_map escaped (take l.start l.text)) × IsRun l.text l.start l.place
