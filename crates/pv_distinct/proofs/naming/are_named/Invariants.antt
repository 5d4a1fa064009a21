use Rattle.std.proofs.Common.{◌≡◌, true, take}
use lib.Pointwise.{pointwise}
use Rattle.pv_distinct.proofs.Named.{is_named}
use Rattle.pv_distinct.proofs.naming.are_named.Given as goal

abbrev pub invariant-loop-i : goal.invariant-loop-i
invariant-loop-i l = pointwise is_named (take l.i l.members) (take l.i l.entries) ≡ true
