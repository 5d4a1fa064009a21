use Rattle.std.proofs.Common.{◌≡◌, ◌++◌, drop}
use Rattle.pv_rules.specs.Members.{texts_in}
use Rattle.pv_schema_values.proofs.members.texts_in.Given as goal

abbrev pub invariant-loop-member : goal.invariant-loop-member
invariant-loop-member l = l.texts.items ++ texts_in (drop l.member-index l.members) ≡ texts_in l.members
