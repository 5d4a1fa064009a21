use Rattle.std.proofs.Common.{◌≡◌}
use Rattle.pv_equality.specs.Merging.{first_of_each}
use Rattle.pv_distinct.proofs.items.distinct_of_many.Given as goal

abbrev pub invariant-loop-value : goal.invariant-loop-value
invariant-loop-value l = l.kept ≡ first_of_each l.yielded
