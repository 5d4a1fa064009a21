use Rattle.std.proofs.Common.{◌≡◌, false, take}
use Rattle.std.specs.List.{list_any}
use Rattle.pv_distinct.proofs.Placing.{has_key}
use Rattle.pv_distinct.proofs.entries.place_among.Given as goal

abbrev pub invariant-loop-i : goal.invariant-loop-i
invariant-loop-i l = list_any (has_key l.key) (take l.i l.entries) ≡ false
