use Rattle.std.proofs.Common.{◌≡◌}
use Rattle.pv_equality.specs.Merging.{merged_entries}
use Rattle.pv_distinct.proofs.entries.merged_of_few.Given as goal

abbrev pub invariant-loop-entry : goal.invariant-loop-entry
invariant-loop-entry l = l.kept.items ≡ merged_entries l.yielded
