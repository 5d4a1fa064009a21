use Rattle.std.proofs.Common.{◌≡◌, true, take}
use Rattle.std.specs.List.{list_all}
use Rattle.pv_equality.specs.Hashable as spec
use Rattle.pv_equality.proofs.hashability.+hashable.Given as goal

abbrev pub invariant-all_hashable-loop-value : goal.invariant-all_hashable-loop-value
invariant-all_hashable-loop-value l = list_all spec.hashable (take l.value-index l.values) ≡ true
