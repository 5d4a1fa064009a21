use Rattle.std.proofs.Common.{◌≡◌, take}
use Rattle.pv_schema_check.specs.Find.{itself}
use Rattle.pv_schema.specs.Fields as spec
use Rattle.pv_schema.specs.Making.{fields_in, made}
use Rattle.pv_schema.proofs.fields.field_rules.Given as goal

abbrev pub invariant-loop-name : goal.invariant-loop-name
invariant-loop-name l = l.rules.items ≡ spec.field_rules l.kind l.total (fields_in itself made l.kind (take l.name-index l.fields))
