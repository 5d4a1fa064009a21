use Rattle.std.proofs.Common.{◌≡◌, ◌++◌, drop}
use Rattle.pv_rules.specs.Members.{names_in}
use Rattle.pv_schema_values.proofs.members.names_in.Given as goal

abbrev pub invariant-loop-member : goal.invariant-loop-member
invariant-loop-member l = l.names.items ++ names_in (drop l.member-index l.members) ≡ names_in l.members
