use Rattle.std.proofs.Common.{◌≡◌, ◌∷◌, ◌++◌, take}
use Rattle.std.specs.List.{flat_map}
use Rattle.pv_notation.specs.Notation.{notation, named_notation, entry_notation}
use Rattle.pv_notation.proofs.values.+value.Given as goal

abbrev pub invariant-write_values-loop-value : goal.invariant-write_values-loop-value
invariant-write_values-loop-value l = l.out ≡ l.initial.out ++ flat_map (λ v. 44 ∷ notation v) (take l.value-index l.rest)

abbrev pub invariant-write_named-loop-name : goal.invariant-write_named-loop-name
invariant-write_named-loop-name l = l.out ≡ l.initial.out ++ flat_map (λ m. 44 ∷ named_notation m) (take l.name-index l.rest)

abbrev pub invariant-write_entries-loop-key : goal.invariant-write_entries-loop-key
invariant-write_entries-loop-key l = l.out ≡ l.initial.out ++ flat_map (λ m. 44 ∷ entry_notation m) (take l.key-index l.rest)
