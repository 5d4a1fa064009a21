use Rattle.std.proofs.Common.{◌≡◌, drop}
use Rattle.pv_schema_table.specs.Table as spec
use Rattle.pv_schema_table.specs.Rows.{types_in}
use Rattle.pv_schema_table.proofs.row_lookup.row_named.Given as goal

abbrev pub invariant-loop-row : goal.invariant-loop-row
invariant-loop-row l = spec.row_named l.name (types_in (drop l.row-index l.rows)) ≡ spec.row_named l.name (types_in l.rows)
