use Rattle.std.proofs.Common.{All, take}
use Rattle.pv_notation.specs.Numbers.{IsSound}
use Rattle.pv_notation.proofs.laws.+sound.Given as goal

abbrev pub invariant-list_is_sound-loop-value : goal.invariant-list_is_sound-loop-value
invariant-list_is_sound-loop-value l = All IsSound (take l.value-index l.values)

abbrev pub invariant-named_are_sound-loop-value : goal.invariant-named_are_sound-loop-value
invariant-named_are_sound-loop-value l = All (λ m. IsSound m.1) (take l.value-index l.named)

abbrev pub invariant-entries_are_sound-loop-key : goal.invariant-entries_are_sound-loop-key
invariant-entries_are_sound-loop-key l = All (λ e. IsSound e.0 × IsSound e.1) (take l.key-index l.entries)
