use Rattle.std.proofs.Common.{◌≡◌, map, take}
use Rattle.pv_scalar.specs.Literals.{enum_value}
use Rattle.pv_scalar.proofs.values.values_of.Given as goal

abbrev pub invariant-loop-member : goal.invariant-loop-member
invariant-loop-member l = l.all.items ≡ map enum_value (take l.member-index l.members)
