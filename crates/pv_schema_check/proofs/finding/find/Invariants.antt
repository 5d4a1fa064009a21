use Rattle.std.proofs.Common.{◌≡◌, drop}
use Rattle.pv_schema_check.specs.Find as spec
use Rattle.pv_schema_table.specs.Keys.{text}
use Rattle.pv_schema_check.proofs.finding.find.Given as goal

abbrev pub invariant-loop-name : goal.invariant-loop-name
invariant-loop-name l = spec.find (text l.key) (drop l.name-index l.members) ≡ spec.find (text l.key) l.members
