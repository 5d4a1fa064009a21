-- What follows a failed ask of `listify`.
use Rattle.std.proofs.Common.{◌≡◌, ℕ, zero, suc, ◌<◌, refl, arith}
use Rattle.std.specs.Prelude.{Result, Ok, Err, IfOk}
use Rattle.pv_text.specs.declared.Memory.{Memory}
use Rattle.pv_tree.specs.declared.Tree.{Tree}
use Rattle.pv_tree.specs.declared.Tree.TheVariants as tree
use Rattle.pv_notation.specs.Numbers.{HasNumbers}
use Rattle.pv_notation.proofs.TreeNumbers.{numbers_null}
use Rattle.pv_func.specs.declared.Turn.{Turn}
use Rattle.pv_func.specs.declared.Turn.TheVariants as turn
use Rattle.pv_shipped.specs.Shipped.{array_of, listify_failed}
use Rattle.pv_func.specs.Soundness.{TurnIsSound}
use Rattle.pv_shipped.proofs.Parts.{array_has_numbers}

-- an ask where one is left
pub asks_again : (state : Tree) (left : ℕ) → 0 < left → listify_failed state left ≡ turn.Ask tree.Null (array_of state)
asks_again state zero some = absurd (omega arith)
asks_again state (suc left) some = refl

sound_turn : (state : Tree) (left : ℕ) → HasNumbers state → TurnIsSound (listify_failed state left)
sound_turn state zero h = tt
sound_turn state (suc left) h = (numbers_null tree.Null refl, array_has_numbers state (array_of state) refl h)

pub failure_is_sound : (state : Tree) (left : ℕ) (result : Result Turn Memory) → IfOk result (λ t. t ≡ listify_failed state left) → HasNumbers state → IfOk result TurnIsSound
failure_is_sound state left (Ok t) e h = rw e (sound_turn state left h)
failure_is_sound state left (Err fault) e h = tt
