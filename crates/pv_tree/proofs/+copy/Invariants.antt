use Rattle.std.proofs.Common.{◌≡◌, take}
use Rattle.pv_tree.proofs.+copy.Given as goal

abbrev pub invariant-copying::copy_values-loop-value : goal.invariant-copying::copy_values-loop-value
invariant-copying::copy_values-loop-value l = l.all.items ≡ take l.value-index l.values

abbrev pub invariant-copying::copy_named-loop-name : goal.invariant-copying::copy_named-loop-name
invariant-copying::copy_named-loop-name l = l.all.items ≡ take l.name-index l.name-items

abbrev pub invariant-copying::copy_entries-loop-key : goal.invariant-copying::copy_entries-loop-key
invariant-copying::copy_entries-loop-key l = l.all.items ≡ take l.key-index l.entries
