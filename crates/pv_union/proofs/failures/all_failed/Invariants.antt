use Rattle.std.proofs.Common.{◌≡◌, ◌+◌, ◌++◌, drop, length, map}
use Rattle.std.specs.Vec.Iter.{into_iter_items}
use Rattle.pv_fault.specs.declared.Outcome.TheVariants.{Bad}
use Rattle.pv_union.specs.Unions.{failures}
use Rattle.pv_union.proofs.failures.all_failed.Given as goal

abbrev pub invariant-loop-faults : goal.invariant-loop-faults
invariant-loop-faults l = record {
  told : l.all ++ failures (drop l.place l.labels) (map Bad (into_iter_items l.faults-iterator)) ≡ failures l.labels (map Bad l.fn.members.items);
  left : l.place + length (into_iter_items l.faults-iterator) ≡ length l.labels;
}
