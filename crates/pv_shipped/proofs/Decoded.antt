-- Bytes, and what stands for none, are sound.
use Rattle.std.proofs.Common.{◌≡◌, ℕ, List, refl}
use Rattle.std.specs.Prelude.{Result, Ok, Err, IfOk}
use Rattle.hex.specs.declared.FromHexError.{FromHexError}
use Rattle.hex.specs.Hex.{decode_of}
use Rattle.pv_text.specs.declared.Memory.{Memory}
use Rattle.pv_tree.specs.declared.Value.TheVariants as value
use Rattle.pv_notation.proofs.Sound.{sound_bytes}
use Rattle.pv_func.specs.declared.Made.{Made}
use Rattle.pv_shipped.specs.Shipped.{bytes_or_raise, decoded}
use Rattle.pv_func.specs.Soundness.{MadeIsSound}

bytes_are_sound : (r : Result (List ℕ) FromHexError) → MadeIsSound (bytes_or_raise r)
bytes_are_sound (Ok bytes) = sound_bytes (value.Bytes bytes) bytes refl
bytes_are_sound (Err fault) = tt

pub decoded_is_sound : (text : List ℕ) (result : Result Made Memory) → IfOk result (λ made. made ≡ decoded text) → IfOk result MadeIsSound
decoded_is_sound text (Ok made) e = rw e (bytes_are_sound (decode_of text))
decoded_is_sound text (Err fault) e = tt
