use Rattle.std.proofs.Common.{ℕ, List}
use Rattle.pv_tree.specs.declared.Value.{Value}
use Rattle.pv_notation.specs.Numbers.{IsSound}
use Rattle.pv_notation.proofs.Holding.{one_more, all_of}
use Rattle.pv_notation.proofs.laws.+sound.Goals as goal

abbrev SoundNamed : List ℕ × Value → Type 0
SoundNamed m = IsSound m.1

abbrev SoundEntry : Value × Value → Type 0
SoundEntry e = IsSound e.0 × IsSound e.1

pub list_is_sound-loop-value-preserved : goal.list_is_sound-loop-value-preserved
list_is_sound-loop-value-preserved t c =
    one_more IsSound c.args.values.now c.loop-value.value-index c.value-item.result c.loop-value-test.true c.value-item.is c.values_are_sound.ensures c.loop-value.invariant

pub list_is_sound-returns : goal.list_is_sound-returns
list_is_sound-returns t c = all_of IsSound c.args.values.now c.loop-value.value-index c.loop-value-test.false c.loop-value.invariant

pub named_are_sound-loop-value-preserved : goal.named_are_sound-loop-value-preserved
named_are_sound-loop-value-preserved t c =
    one_more SoundNamed c.args.named.now c.loop-value.value-index c.loop-value-item.result c.loop-value-test.true c.loop-value-item.is c.values_are_sound.ensures c.loop-value.invariant

pub named_are_sound-returns : goal.named_are_sound-returns
named_are_sound-returns t c = all_of SoundNamed c.args.named.now c.loop-value.value-index c.loop-value-test.false c.loop-value.invariant

pub entries_are_sound-loop-key-preserved : goal.entries_are_sound-loop-key-preserved
entries_are_sound-loop-key-preserved t c =
    one_more SoundEntry c.args.entries.now c.loop-key.key-index c.loop-key-item.result c.loop-key-test.true c.loop-key-item.is
    (c.values_are_sound.ensures, c.values_are_sound-in-loop-key.ensures) c.loop-key.invariant

pub entries_are_sound-returns : goal.entries_are_sound-returns
entries_are_sound-returns t c = all_of SoundEntry c.args.entries.now c.loop-key.key-index c.loop-key-test.false c.loop-key.invariant
