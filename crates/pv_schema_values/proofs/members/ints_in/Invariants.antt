use Rattle.std.proofs.Common.{◌≡◌, ◌++◌, drop}
use Rattle.pv_rules.specs.Members.{ints_in}
use Rattle.pv_schema_values.proofs.members.ints_in.Given as goal

abbrev pub invariant-loop-member : goal.invariant-loop-member
invariant-loop-member l = l.ints.items ++ ints_in (drop l.member-index l.members) ≡ ints_in l.members
