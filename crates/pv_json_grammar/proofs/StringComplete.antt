-- What is spelled is read: strings.
use Rattle.std.proofs.Common.{◌≡◌, ◌≢◌, ℕ, zero, suc, ◌+◌, ◌*◌, ◌/◌, ◌%◌, ◌<◌, ◌≤◌, Bool, true, false, List, [], ◌∷◌, ◌++◌, length, take, Ok, refl, sym, ap, ◌∙◌, inl, inr, append_assoc, append-nil, add-one, arith}
use Rattle.std.proofs.lemmas.Bool.{le-leb, lt-leb, lt-ltb, le-ltb, ne_eqb, cases_lt}
use Rattle.std.proofs.lemmas.Bool.Decides.{eqb_tells}
use Rattle.std.proofs.lemmas.Str.{encode_ascii}
use Rattle.std.specs.Char.{encode_utf8}
use Rattle.std.specs.Prelude.{◌⊎◌, ◌==◌, nat_lt, if◌then◌else◌}
use Rattle.pv_json_grammar.specs.Strings.{raw, hex_value, hex, two, first_code, low_code, is_high, joined, unicode, escaped, escape, ends_plain, plain, turn, string_from}
use Rattle.pv_json_grammar.specs.SpelledStrings.{Digits, SpellsUnit, raw_unit, short_unit, code_unit, pair_unit, AllUnits, spelled, meant}
use Rattle.pv_json_grammar.proofs.Utf8.{byte_ok, not_same, encoded}

pub hex_ok : (lo hi b : ℕ) (bs : List ℕ) → lo ≤ hex_value b → hex_value b ≤ hi → hex lo hi (b ∷ bs) ≡ Ok (hex_value b, bs)
unfolding hex
hex_ok lo hi b bs l h = rw (le-leb lo (hex_value b) l, le-leb (hex_value b) hi h) refl

two_ok : (n c d : ℕ) (bs : List ℕ) → hex_value c < 16 → hex_value d < 16 → two n (c ∷ d ∷ bs) ≡ Ok ((n * 16 + hex_value c) * 16 + hex_value d, bs)
unfolding two
two_ok n c d bs p q = rw (hex_ok 0 15 c (d ∷ bs) (omega arith) (omega arith), hex_ok 0 15 d bs (omega arith) (omega arith)) refl

second_fits : (x y z w u : ℕ) → x < 16 → y < 16 → z < 16 → w < 16 → u ≡ ((x * 16 + y) * 16 + z) * 16 + w → (u < 56320) ⊎ (57344 ≤ u)
    → y ≤ (if x == 13 then 11 else 15)
second_fits x y z w u p q r s e h = grind (arith, eqb_tells)

first_ok : (t bs : List ℕ) (u : ℕ) → Digits t u → (u < 56320) ⊎ (57344 ≤ u) → first_code (t ++ bs) ≡ Ok (u, bs)
unfolding first_code
first_ok t bs u d h =
    rw (
      d.whole,
      hex_ok 0 15 d.a (d.b ∷ d.c ∷ d.d ∷ bs) (omega arith) (let s : hex_value d.a < 16 = d.small_a in omega arith),
      hex_ok 0 (if hex_value d.a == 13 then 11 else 15) d.b (d.c ∷ d.d ∷ bs) (omega arith)
          (second_fits (hex_value d.a) (hex_value d.b) (hex_value d.c) (hex_value d.d) u d.small_a d.small_b d.small_c d.small_d d.counts h),
      two_ok (hex_value d.a * 16 + hex_value d.b) d.c d.d bs d.small_c d.small_d,
      d.counts,
    ) refl

low_first : (x y z w v : ℕ) → x < 16 → y < 16 → z < 16 → w < 16 → v ≡ ((x * 16 + y) * 16 + z) * 16 + w → 56320 ≤ v → v < 57344 → (x ≡ 13) × (12 ≤ y)
low_first x y z w v p q r s e g h = (omega arith, omega arith)

low_ok : (t bs : List ℕ) (v : ℕ) → Digits t v → 56320 ≤ v → v < 57344 → low_code (92 ∷ 117 ∷ (t ++ bs)) ≡ Ok (v, bs)
unfolding low_code
low_ok t bs v d g h =
    let f = low_first (hex_value d.a) (hex_value d.b) (hex_value d.c) (hex_value d.d) v d.small_a d.small_b d.small_c d.small_d d.counts g h in
    let same : v ≡ ((208 + hex_value d.b) * 16 + hex_value d.c) * 16 + hex_value d.d = d.counts ∙ ap (λ x. ((x * 16 + hex_value d.b) * 16 + hex_value d.c) * 16 + hex_value d.d) f.0 in
    rw (
      d.whole,
      byte_ok 92 92 92 (117 ∷ d.a ∷ d.b ∷ d.c ∷ d.d ∷ bs) (omega arith) (omega arith),
      byte_ok 117 117 117 (d.a ∷ d.b ∷ d.c ∷ d.d ∷ bs) (omega arith) (omega arith),
      hex_ok 13 13 d.a (d.b ∷ d.c ∷ d.d ∷ bs) (let e : hex_value d.a ≡ 13 = f.0 in omega arith) (let e : hex_value d.a ≡ 13 = f.0 in omega arith),
      hex_ok 12 15 d.b (d.c ∷ d.d ∷ bs) f.1 (let s : hex_value d.b < 16 = d.small_b in omega arith),
      two_ok (208 + hex_value d.b) d.c d.d bs d.small_c d.small_d,
      same,
    ) refl

not_high : (u : ℕ) → (u < 55296) ⊎ (57344 ≤ u) → is_high u ≡ false
not_high u (inl l) = rw (lt-leb 55296 u l) refl
not_high u (inr h) = rw (le-leb 55296 u (omega arith), le-ltb u 56320 (omega arith)) refl

below : (u : ℕ) → (u < 55296) ⊎ (57344 ≤ u) → (u < 56320) ⊎ (57344 ≤ u)
below u (inl l) = inl (omega arith)
below u (inr h) = inr h

code_ok : (t bs : List ℕ) (u : ℕ) → Digits t u → (u < 55296) ⊎ (57344 ≤ u) → unicode (t ++ bs) ≡ Ok (encode_utf8 u, bs)
unfolding unicode
code_ok t bs u d h = rw (first_ok t bs u d (below u h), not_high u h) refl

pair_ok : (s t bs : List ℕ) (u v : ℕ) → Digits s u → Digits t v → 55296 ≤ u → u < 56320 → 56320 ≤ v → v < 57344
    → unicode (s ++ (92 ∷ 117 ∷ (t ++ bs))) ≡ Ok (encode_utf8 (joined u v), bs)
unfolding unicode
pair_ok s t bs u v d e p q g h = rw (first_ok s (92 ∷ 117 ∷ (t ++ bs)) u d (inl q), le-leb 55296 u p, lt-ltb u 56320 q, low_ok t bs v e g h) refl

escape_u : (bs : List ℕ) → escape (117 ∷ bs) ≡ unicode bs
unfolding escape
escape_u bs = refl

-- a byte that stands for itself
plain_step : (k b : ℕ) (out bs : List ℕ) → ends_plain b ≡ false → string_from (suc k) out (b ∷ bs) ≡ string_from (suc k) (out ++ b ∷ []) bs
unfolding string_from turn plain
plain_step k b out bs e = rw (e, add-one (plain bs), append_assoc out (b ∷ []) (take (plain bs) bs)) refl

escape_step : (k : ℕ) (out bs v rest : List ℕ) → escape bs ≡ Ok (v, rest) → string_from (suc k) out (92 ∷ bs) ≡ string_from k (out ++ v) rest
unfolding string_from turn plain
escape_step k out bs v rest e = rw (append-nil out, e) refl

raw_step : (k b : ℕ) (out bs v rest : List ℕ) → 128 ≤ b → raw (b ∷ bs) ≡ Ok (v, rest) → string_from (suc k) out (b ∷ bs) ≡ string_from k (out ++ v) rest
unfolding string_from turn plain
raw_step k b out bs v rest l e =
    rw (le-ltb b 32 (omega arith), le-leb 128 b l, append-nil out, not_same b 34 (omega arith), not_same b 92 (omega arith), e) refl

starts : (c : ℕ) → 128 ≤ c → (b : ℕ) × (bs : List ℕ) × (encode_utf8 c ≡ b ∷ bs) × (128 ≤ b)
unfolding encode_utf8
starts c l = by_size (nat_lt c 2048) (nat_lt c 65536) refl refl
  where
    by_size : (x y : Bool) → nat_lt c 2048 ≡ x → nat_lt c 65536 ≡ y → (b : ℕ) × (bs : List ℕ) × (encode_utf8 c ≡ b ∷ bs) × (128 ≤ b)
    by_size true y e f = (192 + c / 64, (128 + c % 64) ∷ [], rw (le-ltb c 128 l, e) refl, omega arith)
    by_size false true e f = (224 + c / 4096, (128 + c / 64 % 64) ∷ (128 + c % 64) ∷ [], rw (le-ltb c 128 l, e, f) refl, omega arith)
    by_size false false e f = (240 + c / 262144, (128 + c / 4096 % 64) ∷ (128 + c / 64 % 64) ∷ (128 + c % 64) ∷ [], rw (le-ltb c 128 l, e, f) refl, omega arith)

short_ok : (b : ℕ) (bs : List ℕ) → escaped b ≢ 0 → escape (b ∷ bs) ≡ Ok (escaped b ∷ [], bs)
unfolding escape escaped
short_ok b bs n = elim (eqb_tells b 117) [
  | inl h ↦ absurd (n (rw h.1 refl))
  | inr h ↦ rw (h.0, ne_eqb (escaped b) 0 n) refl
]

-- one unit more
unit_step : (k : ℕ) (out text bytes rest : List ℕ) → SpellsUnit text bytes
    → (string_from (suc (suc k)) out (text ++ rest) ≡ string_from (suc (suc k)) (out ++ bytes) rest) ⊎ (string_from (suc (suc k)) out (text ++ rest) ≡ string_from (suc k) (out ++ bytes) rest)
unit_step k out text bytes rest (raw_unit c s l p q e f) = elim (cases_lt c 128) [
  | inl h ↦ inl (rw (e, f, encode_ascii c h) (plain_step (suc k) c out rest (rw (le-ltb c 32 l, lt-leb 128 c h, not_same c 34 p, not_same c 92 q) refl)))
  | inr h ↦ (let b = starts c h in inr (rw (e, f)
      (ap (λ z. string_from (suc (suc k)) out (z ++ rest)) b.2
      ∙ raw_step (suc k) b.0 out (b.1 ++ rest) (encode_utf8 c) rest b.3 (ap (λ z. raw (z ++ rest)) (sym b.2) ∙ encoded c rest s h))))
]
unit_step k out text bytes rest (short_unit b n e f) = inr (rw (e, f) (escape_step (suc k) out (b ∷ rest) (escaped b ∷ []) rest (short_ok b rest n)))
unit_step k out text bytes rest (code_unit u t d h e f) = inr (rw (e, f) (escape_step (suc k) out (117 ∷ t ++ rest) (encode_utf8 u) rest (escape_u (t ++ rest) ∙ code_ok t rest u d h)))
unit_step k out text bytes rest (pair_unit u v s t d i p q g h e f) = inr (rw (e, f) (
    ap (λ z. string_from (suc (suc k)) out (92 ∷ 117 ∷ z)) (append_assoc s (92 ∷ 117 ∷ t) rest)
    ∙ escape_step (suc k) out (117 ∷ s ++ (92 ∷ 117 ∷ (t ++ rest))) (encode_utf8 (joined u v)) rest (escape_u (s ++ (92 ∷ 117 ∷ (t ++ rest))) ∙ pair_ok s t rest u v d i p q g h)))

at_end : (k : ℕ) (out rest : List ℕ) → string_from (suc k) out (34 ∷ rest) ≡ Ok (out, rest)
unfolding string_from turn plain
at_end k out rest = rw (append-nil out) refl

pub units_complete : (k : ℕ) (out rest : List ℕ) (us : List (List ℕ × List ℕ)) → length us < k → AllUnits us → string_from k out (spelled us ++ 34 ∷ rest) ≡ Ok (out ++ meant us, rest)
units_complete zero out rest us l a = absurd (omega arith)
units_complete (suc k) out rest [] l a = at_end k out rest ∙ ap (λ z. Ok (z, rest)) (sym (append-nil out))
units_complete (suc zero) out rest (u ∷ us) l a = absurd (omega arith)
units_complete (suc (suc k)) out rest (u ∷ us) l a =
    ap (string_from (suc (suc k)) out) (append_assoc u.0 (spelled us) (34 ∷ rest))
    ∙ elim (unit_step k out u.0 u.1 (spelled us ++ 34 ∷ rest) a.0) [
      | inl h ↦ h ∙ units_complete (suc (suc k)) (out ++ u.1) rest us (omega arith) a.1
      | inr h ↦ h ∙ units_complete (suc k) (out ++ u.1) rest us (omega arith) a.1
    ]
    ∙ ap (λ z. Ok (z, rest)) (append_assoc out u.1 (meant us))
