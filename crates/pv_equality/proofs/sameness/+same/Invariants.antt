use Rattle.std.proofs.Common.{◌≡◌, true, false, ◌&&◌, take, bytes_eq}
use Rattle.std.specs.List.{list_all, list_any}
use lib.Pointwise.{pointwise}
use Rattle.pv_equality.specs.Equality as spec
use Rattle.pv_equality.proofs.sameness.+same.Given as goal

abbrev pub invariant-same_items-loop-i : goal.invariant-same_items-loop-i
invariant-same_items-loop-i l = pointwise spec.same (take l.i l.values) (take l.i l.others) ≡ true

abbrev pub invariant-are_among-next : goal.invariant-are_among-next
invariant-are_among-next l = list_all (λ x. list_any (λ y. spec.same x y) l.others) (take l.value-index l.values) ≡ true

abbrev pub invariant-are_among-loop-other : goal.invariant-are_among-loop-other
invariant-are_among-loop-other l = list_any (λ y. spec.same l.value y) (take l.other-index l.others) ≡ false

abbrev pub invariant-have-next : goal.invariant-have-next
invariant-have-next l = list_all (λ y. list_any (λ x. spec.same x y) l.values) (take l.other-index l.others) ≡ true

abbrev pub invariant-have-loop-value : goal.invariant-have-loop-value
invariant-have-loop-value l = list_any (λ x. spec.same x l.other) (take l.value-index l.values) ≡ false

abbrev pub invariant-are_entries_among-next : goal.invariant-are_entries_among-next
invariant-are_entries_among-next l = list_all (λ x. list_any (λ y. spec.same x.0 y.0 && spec.same x.1 y.1) l.others) (take l.entry-index l.entries) ≡ true

abbrev pub invariant-are_entries_among-loop-other : goal.invariant-are_entries_among-loop-other
invariant-are_entries_among-loop-other l = list_any (λ y. spec.same l.entry.0 y.0 && spec.same l.entry.1 y.1) (take l.other-index l.others) ≡ false

abbrev pub invariant-have_entries-next : goal.invariant-have_entries-next
invariant-have_entries-next l = list_all (λ y. list_any (λ x. spec.same x.0 y.0 && spec.same x.1 y.1) l.entries) (take l.other-index l.others) ≡ true

abbrev pub invariant-have_entries-loop-entry : goal.invariant-have_entries-loop-entry
invariant-have_entries-loop-entry l = list_any (λ x. spec.same x.0 l.other.0 && spec.same x.1 l.other.1) (take l.entry-index l.entries) ≡ false

abbrev pub invariant-are_fields_among-next : goal.invariant-are_fields_among-next
invariant-are_fields_among-next l = list_all (λ x. list_any (λ y. bytes_eq x.0 y.0 && spec.same x.1 y.1) l.others) (take l.field-index l.fields) ≡ true

abbrev pub invariant-are_fields_among-loop-other : goal.invariant-are_fields_among-loop-other
invariant-are_fields_among-loop-other l = list_any (λ y. bytes_eq l.field.0 y.0 && spec.same l.field.1 y.1) (take l.other-index l.others) ≡ false

abbrev pub invariant-have_fields-next : goal.invariant-have_fields-next
invariant-have_fields-next l = list_all (λ y. list_any (λ x. bytes_eq x.0 y.0 && spec.same x.1 y.1) l.fields) (take l.other-index l.others) ≡ true

abbrev pub invariant-have_fields-loop-field : goal.invariant-have_fields-loop-field
invariant-have_fields-loop-field l = list_any (λ x. bytes_eq x.0 l.other.0 && spec.same x.1 l.other.1) (take l.field-index l.fields) ≡ false
