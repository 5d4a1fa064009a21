-- What is read of a string is UTF-8.
use Rattle.std.proofs.Common.{◌≡◌, ℕ, ◌<◌, ◌≤◌, ◌+◌, ◌*◌, List, [], ◌∷◌, ◌++◌, length, Ok, refl, sym, ap, ◌∙◌, subst, inl, inr, arith, append_assoc, length-append}
use Rattle.std.proofs.lemmas.Bool.{le-leb, lt-ltb, le-ltb}
use Rattle.std.proofs.lemmas.Bool.Decides.{eqb_tells}
use Rattle.std.proofs.lemmas.Str.{encode_ascii, IsUtf8-append, IsUtf8-nil, IsUtf8-encode, length-encode, len_utf8_bounds}
use Rattle.std.proofs.Math.Utf8.{low_scalar}
use Rattle.std.specs.Char.{IsScalar}
use Rattle.std.specs.Prelude.{◌⊎◌, IsUtf8}
use Rattle.pv_json_grammar.specs.Strings.{escaped, joined, string}
use Rattle.pv_json_grammar.specs.SpelledStrings.{Digits, SpellsUnit, raw_unit, short_unit, code_unit, pair_unit, AllUnits, spelled, meant, SpellsString}
use Rattle.pv_json_grammar.proofs.StringComplete.{units_complete}
use Rattle.pv_json_grammar.proofs.StringSound.{string_sound}

escaped_small : (b : ℕ) → escaped b < 128
unfolding escaped
escaped_small b = grind (arith, eqb_tells)

digits_scalar : (u : ℕ) (t : List ℕ) → Digits t u → (u < 55296) ⊎ (57344 ≤ u) → IsScalar u
digits_scalar u t d (inl l) = low_scalar u l
digits_scalar u t d (inr h) =
    let small : u < 1114112 = top _ _ _ _ u d.small_a d.small_b d.small_c d.small_d d.counts in
    rw (le-ltb u 55296 (omega arith), le-leb 57344 u h, lt-ltb u 1114112 small) refl
  where
    top : (x y z w u : ℕ) → x < 16 → y < 16 → z < 16 → w < 16 → u ≡ ((x * 16 + y) * 16 + z) * 16 + w → u < 1114112
    top x y z w u p q r s e = omega arith

joined_scalar : (u v : ℕ) → 55296 ≤ u → u < 56320 → 56320 ≤ v → v < 57344 → IsScalar (joined u v)
joined_scalar u v p q r s = by (joined u v) (omega arith) (omega arith)
  where
    by : (c : ℕ) → 65536 ≤ c → c < 1114112 → IsScalar c
    by c l h = rw (le-ltb c 55296 (omega arith), le-leb 57344 c (omega arith), lt-ltb c 1114112 h) refl

unit_utf8 : (text bytes : List ℕ) → SpellsUnit text bytes → IsUtf8 bytes
unit_utf8 text bytes (raw_unit c s l p q e f) = subst IsUtf8 (sym f) (IsUtf8-encode c s)
unit_utf8 text bytes (short_unit b n e f) = subst IsUtf8 (encode_ascii (escaped b) (escaped_small b) ∙ sym f) (IsUtf8-encode (escaped b) (low_scalar (escaped b) (omega (arith, escaped_small b))))
unit_utf8 text bytes (code_unit u t d h e f) = subst IsUtf8 (sym f) (IsUtf8-encode u (digits_scalar u t d h))
unit_utf8 text bytes (pair_unit u v s t d i p q g h e f) = subst IsUtf8 (sym f) (IsUtf8-encode (joined u v) (joined_scalar u v p q g h))

pub units_utf8 : (us : List (List ℕ × List ℕ)) → AllUnits us → IsUtf8 (meant us)
units_utf8 [] a = IsUtf8-nil
units_utf8 (u ∷ us) a = IsUtf8-append u.1 (meant us) (unit_utf8 u.0 u.1 a.0) (units_utf8 us a.1)

pub string_utf8 : (bs : List ℕ) (y : List ℕ × List ℕ) → string bs ≡ Ok y → IsUtf8 y.0
string_utf8 bs y e = let s = string_sound bs y e in subst IsUtf8 (sym (s.1).means) (units_utf8 (s.1).units (s.1).each)

-- each unit takes a byte
unit_long : (text bytes : List ℕ) → SpellsUnit text bytes → 0 < length text
unit_long text bytes (raw_unit c s l p q e f) = omega (arith, ap length e, length-encode c, (len_utf8_bounds c).0)
unit_long text bytes (short_unit b n e f) = omega (arith, ap length e)
unit_long text bytes (code_unit u t d h e f) = omega (arith, ap length e)
unit_long text bytes (pair_unit u v s t d i p q g h e f) = omega (arith, ap length e)

units_long : (us : List (List ℕ × List ℕ)) → AllUnits us → length us ≤ length (spelled us)
units_long [] a = omega arith
units_long (u ∷ us) a = omega (arith, length-append u.0 (spelled us), unit_long u.0 u.1 a.0, units_long us a.1)

-- what is spelled, behind its opening quote, is read
pub string_complete : (text bytes tail rest : List ℕ) → SpellsString text bytes → text ++ rest ≡ 34 ∷ tail → string tail ≡ Ok (bytes, rest)
string_complete text bytes tail rest s e =
    let us = s.units in
    let same : spelled us ++ 34 ∷ rest ≡ tail = tail_same _ _ (sym (ap (λ z. z ++ rest) s.whole ∙ ap (λ z. 34 ∷ z) (append_assoc (spelled us) (34 ∷ []) rest)) ∙ e) in
    let long : length us < length (spelled us ++ 34 ∷ rest) = omega (arith, length-append (spelled us) (34 ∷ rest), units_long us s.each) in
    ap string (sym same) ∙ units_complete (length (spelled us ++ 34 ∷ rest)) [] rest us long s.each ∙ ap (λ z. Ok (z, rest)) (sym s.means)
  where
    tail_same : (xs ys : List ℕ) → 34 ∷ xs ≡ 34 ∷ ys → xs ≡ ys
    tail_same xs ys e = cc
