-- Strings without escapes.
use Rattle.std.proofs.Common.{◌≡◌, ℕ, ◌+◌, ◌<◌, ◌≤◌, List, [], ◌∷◌, ◌++◌, length, get_or, take, drop, Ok, refl, sym, ap, ◌∙◌, subst, append_assoc}
use Rattle.std.specs.Prelude.{◌≢◌}
use Rattle.std.proofs.lemmas.Bool.{le-ltb, lt-leb}
use Rattle.std.specs.List.{flat_map}
use Rattle.std.specs.Str.{IsUtf8, IsAscii}
use Rattle.std.proofs.lemmas.List.{take-append-drop, take_more, drop_more}
use Rattle.std.proofs.lemmas.Str.{IsUtf8-from_ascii}
use Rattle.pv_notation.specs.Strings.{escaped, quoted}
use Rattle.pv_notation.proofs.Escapes.{plain_byte, one_more}
use Rattle.pv_json_grammar.specs.Strings.{plain, string}
use Rattle.pv_json_grammar.specs.SpelledStrings.{SpellsString}
use Rattle.pv_json_grammar.proofs.Utf8.{not_same}
use Rattle.pv_json_grammar.proofs.Quoted.{quoted_spelled}
use Rattle.pv_json_grammar.proofs.Utf8Kept.{string_complete}

pub ascii_text : (bs : List ℕ) → IsAscii bs → IsUtf8 bs
ascii_text bs a = IsUtf8-from_ascii bs a

-- one byte more that stands for itself
pub plain_more : (bs : List ℕ) (i : ℕ) → i < length bs → 32 ≤ get_or bs i 0 → get_or bs i 0 ≢ 34 → get_or bs i 0 ≢ 92
    → flat_map escaped (take i bs) ≡ take i bs → flat_map escaped (take (i + 1) bs) ≡ take (i + 1) bs
plain_more bs i l low p q h =
    one_more bs i 0 l ∙ ap (λ xs. xs ++ escaped (get_or bs i 0)) h ∙ ap (λ xs. take i bs ++ xs) (plain_byte (get_or bs i 0) low p q) ∙ sym (take_more bs i 0 l)

-- the same of the count of them
pub plain_next : (bs : List ℕ) (i : ℕ) → i < length bs → 32 ≤ get_or bs i 0 → get_or bs i 0 < 128 → get_or bs i 0 ≢ 34 → get_or bs i 0 ≢ 92
    → plain (drop i bs) ≡ plain (drop (i + 1) bs) + 1
unfolding plain
plain_next bs i l low high p q =
    ap plain (drop_more bs i 0 l)
    ∙ rw (le-ltb (get_or bs i 0) 32 low, lt-leb 128 (get_or bs i 0) high, not_same (get_or bs i 0) 34 p, not_same (get_or bs i 0) 92 q) refl

-- a string that is written as it is
pub plain_string : (bs : List ℕ) (n : ℕ) → n < length bs → get_or bs n 0 ≡ 34 → flat_map escaped (take n bs) ≡ take n bs → IsUtf8 (take n bs)
    → string bs ≡ Ok (take n bs, drop (n + 1) bs)
plain_string bs n l e plain text =
    let front : bs ≡ take n bs ++ 34 ∷ drop (n + 1) bs =
    sym (take-append-drop n bs) ∙ ap (λ xs. take n bs ++ xs) (drop_more bs n 0 l ∙ ap (λ b. b ∷ drop (n + 1) bs) e) in
    let closed : (take n bs ++ 34 ∷ []) ++ drop (n + 1) bs ≡ bs = append_assoc (take n bs) (34 ∷ []) (drop (n + 1) bs) ∙ sym front in
    let quotes : quoted (take n bs) ≡ 34 ∷ take n bs ++ 34 ∷ [] = ap (λ xs. 34 ∷ xs ++ 34 ∷ []) plain in
    string_complete (34 ∷ take n bs ++ 34 ∷ []) (take n bs) bs (drop (n + 1) bs)
    (subst (λ t. SpellsString t (take n bs)) quotes (quoted_spelled (take n bs) text))
    (ap (λ xs. 34 ∷ xs) closed)
