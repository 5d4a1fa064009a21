use Rattle.std.proofs.Common.{◌≡◌, drop}
use Rattle.pv_schema_check.specs.Checking as spec
use Rattle.pv_schema_check.specs.Find.{itself, tree_at}
use Rattle.pv_schema_check.proofs.missing.check_missing.Given as goal

abbrev pub invariant-loop-row : goal.invariant-loop-row
invariant-loop-row l =
    spec.missing (tree_at itself l.members) (drop l.row-index l.rows) ≡ spec.missing (tree_at itself l.members) l.rows
