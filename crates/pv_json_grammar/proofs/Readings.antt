-- What an input is as a document, by what reading gives.
use Rattle.std.proofs.Common.{◌≡◌, ℕ, zero, suc, ◌-◌, ◌<◌, ◌≤◌, List, [], length, Ok, Err, refl, sym, ap, append-nil, arith}
use Rattle.std.specs.Prelude.{Result}
use Rattle.pv_tree.specs.declared.Tree.{Tree}
use Rattle.pv_json_grammar.specs.Values.{document}
use Rattle.pv_json_grammar.specs.Documents.{whole, bad, ends_early, by_reading, reading}
use Rattle.pv_json_grammar.specs.Spells.{SpellsScalar, spells_scalar, Spells, SpellsDocument}
use Rattle.pv_json_grammar.proofs.ValueSound.{document_sound}
use Rattle.pv_json_grammar.proofs.ValueComplete.{document_complete}
use Rattle.pv_json_grammar.proofs.Left.{document_left}

whole_by : (size : ℕ) (r : Result Tree ℕ) (t : Tree) → by_reading size r ≡ whole t → r ≡ Ok t
whole_by size (Ok u) t e = cc
whole_by size (Err zero) t e = cc
whole_by size (Err (suc left)) t e = cc

-- a whole document is what reading gives
pub whole_read : (n : ℕ) (bs : List ℕ) (t : Tree) → reading n bs ≡ whole t → document n bs ≡ Ok t
unfolding reading
whole_read n bs t e = whole_by (length bs) (document n bs) t e

pub read_is_whole : (n : ℕ) (bs : List ℕ) (t : Tree) → document n bs ≡ Ok t → reading n bs ≡ whole t
unfolding reading
read_is_whole n bs t e = ap (by_reading (length bs)) e

-- a document that ends early
pub early_is_end : (n : ℕ) (bs : List ℕ) → document n bs ≡ Err 0 → reading n bs ≡ ends_early
unfolding reading
early_is_end n bs e = ap (by_reading (length bs)) e

-- a byte at fault
pub fault_is_bad : (n : ℕ) (bs : List ℕ) (left : ℕ) → document n bs ≡ Err left → (left ≡ 0 → ⊥)
    → reading n bs ≡ bad (length bs - left)
unfolding reading
fault_is_bad n bs zero e some = absurd (some refl)
fault_is_bad n bs (suc left) e some = ap (by_reading (length bs)) e

pub reading_sound : (n : ℕ) (bs : List ℕ) (t : Tree) → reading n bs ≡ whole t → SpellsDocument n bs t
reading_sound n bs t e = document_sound n bs t (whole_read n bs t e)

pub reading_complete : (n : ℕ) (bs : List ℕ) (t : Tree) → SpellsDocument n bs t → reading n bs ≡ whole t
reading_complete n bs t s = read_is_whole n bs t (document_complete n bs t s)

bad_same : (i j : ℕ) → bad i ≡ bad j → i ≡ j
bad_same i j e = cc

placed_by : (size : ℕ) (r : Result Tree ℕ) (at : ℕ) → ((left : ℕ) → r ≡ Err left → left ≤ size)
    → by_reading size r ≡ bad at → at < size
placed_by size (Ok t) at within e = cc
placed_by size (Err zero) at within e = cc
placed_by size (Err (suc left)) at within e =
    let least : suc left ≤ size = within (suc left) refl in
    let place : size - suc left ≡ at = bad_same (size - suc left) at e in
    omega (arith, least, place)

-- a byte that fits nowhere is one of the input
pub bad_within : (n : ℕ) (bs : List ℕ) (at : ℕ) → reading n bs ≡ bad at → at < length bs
unfolding reading
bad_within n bs at e = placed_by (length bs) (document n bs) at (document_left n bs) e

scalar_spelled : (n : ℕ) (bs : List ℕ) (t : Tree) → SpellsScalar bs t → Spells n bs t
unfolding Spells
scalar_spelled zero bs t s = s
scalar_spelled (suc n) bs t s = spells_scalar s

-- a scalar with no white space round it, as the words of a command have it
pub scalar_whole : (n : ℕ) (bs : List ℕ) (t : Tree) → SpellsScalar bs t → reading n bs ≡ whole t
scalar_whole n bs t s = reading_complete n bs t (record {
  lead = [];
  text = bs;
  trail = [];
  whole = sym (append-nil bs);
  blank_lead = tt;
  spells = scalar_spelled n bs t s;
  blank_trail = tt;
})
