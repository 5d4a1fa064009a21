use Rattle.std.proofs.Common.{◌≡◌, drop}
use Rattle.pv_schema_table.specs.Table as spec
use Rattle.pv_schema_table.proofs.row_lookup.kind_in.Given as goal

abbrev pub invariant-loop-row : goal.invariant-loop-row
invariant-loop-row l = spec.kind_in (drop l.row-index l.rows) l.key ≡ spec.kind_in l.rows l.key
