use Rattle.std.proofs.Common.{◌≡◌, drop}
use Rattle.pv_schema_check.specs.Checking as spec
use Rattle.pv_schema_check.specs.Find.{itself, tree_at}
use Rattle.pv_schema_check.proofs.fits.check_tests.Given as goal

abbrev pub invariant-loop-test : goal.invariant-loop-test
invariant-loop-test l =
    spec.misfits (tree_at itself l.members) (drop l.test-index l.tests) ≡ spec.misfits (tree_at itself l.members) l.tests
