use Rattle.std.proofs.Common.{◌≡◌, ◌++◌, map, take}
use Rattle.pv_distinct.specs.Keys.{key, joined, ordered, item_key, entry_key, field_key}
use Rattle.pv_distinct.proofs.making.+key.Given as goal

abbrev pub invariant-write_items-loop-value : goal.invariant-write_items-loop-value
invariant-write_items-loop-value l = l.out ≡ l.initial.out ++ joined (map key (take l.value-index l.values))

abbrev pub invariant-write_set-loop-value : goal.invariant-write_set-loop-value
invariant-write_set-loop-value l = l.keys.keys ≡ ordered (map (λ v. item_key (key v)) (take l.value-index l.values))

abbrev pub invariant-write_entries-loop-first : goal.invariant-write_entries-loop-first
invariant-write_entries-loop-first l = l.keys.keys ≡ ordered (map (λ e. entry_key (key e.0, key e.1)) (take l.first-index l.entries))

abbrev pub invariant-write_fields-loop-name : goal.invariant-write_fields-loop-name
invariant-write_fields-loop-name l = l.keys.keys ≡ ordered (map (λ f. field_key (f.0, key f.1)) (take l.name-index l.fields))
