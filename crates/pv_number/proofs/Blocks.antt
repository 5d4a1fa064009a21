-- A number that is a whole block.
use Rattle.std.proofs.Common.{◌≡◌, ℕ, List, length, sym, ◌∙◌, subst, arith}
use Rattle.std.proofs.lemmas.List.{take_all}
use Rattle.std.specs.Prelude.{IsTrue}
use Rattle.pv_text.specs.Pieces.{piece}
use Rattle.pv_number.specs.Grammar.{IsNumber}
use Rattle.pv_number.specs.Scanning.{is_number}
use Rattle.pv_number.proofs.Completeness.{is_number_complete}

pub whole_block : (block bytes : List ℕ) (len : ℕ) → block ≡ bytes → len ≡ length block → IsNumber bytes
    → IsTrue (is_number (piece 0 len block))
whole_block block bytes len e f n =
    let same : piece 0 len block ≡ bytes = take_all len block (omega (arith, f)) ∙ e in
    subst (λ bs. IsTrue (is_number bs)) (sym same) (is_number_complete bytes n)
