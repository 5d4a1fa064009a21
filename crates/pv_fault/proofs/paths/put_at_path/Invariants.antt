use Rattle.std.proofs.Common.{◌≡◌, ◌++◌, map, take, drop}
use Rattle.pv_fault.specs.Under.{at_path}
use Rattle.pv_fault.proofs.paths.put_at_path.Given as goal

abbrev pub invariant-loop-place : goal.invariant-loop-place
invariant-loop-place l = l.errors ≡ map (at_path l.path) (take l.place l.fn.errors) ++ drop l.place l.fn.errors
