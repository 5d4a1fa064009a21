-- A text in quotes, with its escapes, spells that text.
use Rattle.std.proofs.Common.{◌≡◌, ◌≢◌, ℕ, ◌+◌, ◌/◌, ◌%◌, ◌<◌, ◌≤◌, Bool, true, false, List, [], ◌∷◌, ◌++◌, map, refl, sym, ap, ◌∙◌, subst, inl, inr, append-nil, arith}
use Rattle.std.proofs.lemmas.Bool.{lt-ltb, le-ltb, cases_lt}
use Rattle.std.proofs.lemmas.Bool.Decides.{eqb_tells}
use Rattle.std.proofs.lemmas.Str.{encode_ascii}
use Rattle.std.proofs.lemmas.Grind.{flat_map-append}
use Rattle.std.specs.Char.{IsScalar, encode_utf8}
use Rattle.std.specs.List.{flat_map, AllByRecursion}
use Rattle.std.specs.Prelude.{◌&&◌, nat_lt, IsUtf8, encode_utf8_all}
use Rattle.std.specs.Str.{all_scalars}
use Rattle.pv_notation.specs.Strings.{hex_digit, short_escape, quoted}
use Rattle.pv_notation.specs.Strings.{escaped as written}
use Rattle.pv_json_grammar.specs.Strings.{hex_value, escaped}
use Rattle.pv_json_grammar.specs.SpelledStrings.{Digits, SpellsUnit, raw_unit, short_unit, code_unit, AllUnits, spelled, meant, SpellsString}
use Rattle.pv_json_grammar.proofs.Utf8.{not_same}

digit_counts : (d : ℕ) → d < 16 → hex_value (hex_digit d) ≡ d
unfolding hex_value
digit_counts d l = elim (cases_lt d 10) [
  | inl h ↦ rw (lt-ltb d 10 h, le-ltb (d + 48) 48 (omega arith), lt-ltb (d + 48) 58 (omega arith)) (omega arith)
  | inr h ↦ rw (le-ltb d 10 h, le-ltb (d + 87) 48 (omega arith), le-ltb (d + 87) 58 (omega arith), le-ltb (d + 87) 65 (omega arith), le-ltb (d + 87) 71 (omega arith), le-ltb (d + 87) 97 (omega arith), lt-ltb (d + 87) 103 (omega arith)) (omega arith)
]

zero_counts : hex_value 48 ≡ 0
unfolding hex_value
zero_counts = refl

-- four digits for a code below 32
control_digits : (c : ℕ) → c < 32 → Digits (48 ∷ 48 ∷ hex_digit (c / 16) ∷ hex_digit (c % 16) ∷ []) c
control_digits c l =
    let high = digit_counts (c / 16) (omega arith) in
    let low = digit_counts (c % 16) (omega arith) in
    record {
      a = 48;
      b = 48;
      c = hex_digit (c / 16);
      d = hex_digit (c % 16);
      whole = refl;
      small_a = omega (arith, zero_counts);
      small_b = omega (arith, zero_counts);
      small_c = omega (arith, high);
      small_d = omega (arith, low);
      counts = omega (arith, zero_counts, high, low);
    }

-- a byte and its spelling, when that is a backslash and this letter
short_written : (b c : ℕ) → c ≡ escaped b → escaped b ≢ 0 → written c ≡ 92 ∷ b ∷ [] → SpellsUnit (written c) (c ∷ [])
short_written b c e n w = short_unit b n w (ap (λ z. z ∷ []) e)

long_written : (c : ℕ) → short_escape c ≡ 0 → c < 32 → SpellsUnit (written c) (c ∷ [])
unfolding written
long_written c s l =
    code_unit c (48 ∷ 48 ∷ hex_digit (c / 16) ∷ hex_digit (c % 16) ∷ []) (control_digits c l) (inl (omega arith)) (rw (s, lt-ltb c 32 l) refl) (sym (encode_ascii c (omega arith)))

same_written : (c : ℕ) → short_escape c ≡ 0 → 32 ≤ c → written c ≡ c ∷ []
unfolding written
same_written c s l = rw (s, le-ltb c 32 l) refl

raw_written : (c : ℕ) → IsScalar c → short_escape c ≡ 0 → 32 ≤ c → c < 128 → c ≢ 34 → c ≢ 92 → SpellsUnit (written c) (c ∷ [])
raw_written c s e l h p q = raw_unit c s l p q (same_written c e l ∙ sym (encode_ascii c h)) (sym (encode_ascii c h))

-- each character that has a letter, and that letter
at_letter : (c k : ℕ) → c ≡ k → SpellsUnit (written k) (k ∷ []) → SpellsUnit (written c) (c ∷ [])
at_letter c k e u = subst (λ z. SpellsUnit (written z) (z ∷ [])) (sym e) u

short_unit_of : (c : ℕ) → short_escape c ≢ 0 → SpellsUnit (written c) (c ∷ [])
unfolding written short_escape escaped
short_unit_of c n = elim (eqb_tells c 34) [
  | inl h ↦ at_letter c 34 h.1 (short_written 34 34 refl (λ e. omega arith) refl)
  | inr h34 ↦ elim (eqb_tells c 92) [
    | inl h ↦ at_letter c 92 h.1 (short_written 92 92 refl (λ e. omega arith) refl)
    | inr h92 ↦ elim (eqb_tells c 8) [
      | inl h ↦ at_letter c 8 h.1 (short_written 98 8 refl (λ e. omega arith) refl)
      | inr h8 ↦ elim (eqb_tells c 12) [
        | inl h ↦ at_letter c 12 h.1 (short_written 102 12 refl (λ e. omega arith) refl)
        | inr h12 ↦ elim (eqb_tells c 10) [
          | inl h ↦ at_letter c 10 h.1 (short_written 110 10 refl (λ e. omega arith) refl)
          | inr h10 ↦ elim (eqb_tells c 13) [
            | inl h ↦ at_letter c 13 h.1 (short_written 114 13 refl (λ e. omega arith) refl)
            | inr h13 ↦ elim (eqb_tells c 9) [
              | inl h ↦ at_letter c 9 h.1 (short_written 116 9 refl (λ e. omega arith) refl)
              | inr h9 ↦ absurd (n (rw (h34.0, h92.0, h8.0, h12.0, h10.0, h13.0, h9.0) refl))
            ]
          ]
        ]
      ]
    ]
  ]
]

not_short : (c k : ℕ) → short_escape k ≢ 0 → short_escape c ≡ 0 → c ≢ k
not_short c k n e s = n (ap short_escape (sym s) ∙ e)

quote_short : short_escape 34 ≢ 0
unfolding short_escape
quote_short e = omega arith

slash_short : short_escape 92 ≢ 0
unfolding short_escape
slash_short e = omega arith

no_letter : (b : ℕ) → 128 ≤ b → short_escape b ≡ 0
unfolding short_escape
no_letter b l =
    rw (
      not_same b 34 (omega arith),
      not_same b 92 (omega arith),
      not_same b 8 (omega arith),
      not_same b 12 (omega arith),
      not_same b 10 (omega arith),
      not_same b 13 (omega arith),
      not_same b 9 (omega arith),
    ) refl

-- a byte of a character above U+007F stands for itself
high_written : (bs : List ℕ) → AllByRecursion (λ b. 128 ≤ b) bs → flat_map written bs ≡ bs
high_written [] h = refl
high_written (b ∷ bs) h = ap (λ z. z ++ flat_map written bs) (same_written b (no_letter b h.0) (omega (arith, h.0))) ∙ ap (λ z. b ∷ z) (high_written bs h.1)

high_bytes : (c : ℕ) → 128 ≤ c → AllByRecursion (λ b. 128 ≤ b) (encode_utf8 c)
unfolding encode_utf8
high_bytes c l = by_size (nat_lt c 2048) (nat_lt c 65536) refl refl
  where
    by_size : (x y : Bool) → nat_lt c 2048 ≡ x → nat_lt c 65536 ≡ y → AllByRecursion (λ b. 128 ≤ b) (encode_utf8 c)
    by_size true y e f = rw (le-ltb c 128 l, e) (omega arith, (omega arith, tt))
    by_size false true e f = rw (le-ltb c 128 l, e, f) (omega arith, (omega arith, (omega arith, tt)))
    by_size false false e f = rw (le-ltb c 128 l, e, f) (omega arith, (omega arith, (omega arith, (omega arith, tt))))

unit_of_low : (c : ℕ) → IsScalar c → c < 128 → SpellsUnit (written c) (c ∷ [])
unit_of_low c s l = elim (eqb_tells (short_escape c) 0) [
  | inl h ↦ elim (cases_lt c 32) [
    | inl g ↦ long_written c h.1 g
    | inr g ↦ raw_written c s h.1 g l (not_short c 34 quote_short h.1) (not_short c 92 slash_short h.1)
  ]
  | inr h ↦ short_unit_of c h.1
]

unit_of : (c : ℕ) → IsScalar c → SpellsUnit (flat_map written (encode_utf8 c)) (encode_utf8 c)
unit_of c s = elim (cases_lt c 128) [
  | inl h ↦ subst (λ z. SpellsUnit (flat_map written z) z) (sym (encode_ascii c h)) (subst (λ z. SpellsUnit z (c ∷ [])) (sym (append-nil (written c))) (unit_of_low c s h))
  | inr h ↦ raw_unit c s (omega arith) (λ e. omega arith) (λ e. omega arith) (high_written (encode_utf8 c) (high_bytes c h)) refl
]

abbrev units : List ℕ → List (List ℕ × List ℕ)
units cs = map (λ c. (flat_map written (encode_utf8 c), encode_utf8 c)) cs

both : (x y : Bool) → (x && y) ≡ true → (x ≡ true) × (y ≡ true)
both true y e = (refl, e)
both false y e = cc

first_scalar : (c : ℕ) (cs : List ℕ) → all_scalars (c ∷ cs) ≡ true → IsScalar c × (all_scalars cs ≡ true)
first_scalar c cs s = both _ _ s

all_units : (cs : List ℕ) → all_scalars cs ≡ true → AllUnits (units cs)
all_units [] s = tt
all_units (c ∷ cs) s = let h = first_scalar c cs s in (unit_of c h.0, all_units cs h.1)

units_spelled : (cs : List ℕ) → spelled (units cs) ≡ flat_map written (encode_utf8_all cs)
units_spelled [] = refl
units_spelled (c ∷ cs) =
    ap (λ z. flat_map written (encode_utf8 c) ++ z) (units_spelled cs) ∙ sym (flat_map-append written (encode_utf8 c) (encode_utf8_all cs))

units_meant : (cs : List ℕ) → meant (units cs) ≡ encode_utf8_all cs
units_meant [] = refl
units_meant (c ∷ cs) = ap (λ z. encode_utf8 c ++ z) (units_meant cs)

pub quoted_spelled : (text : List ℕ) → IsUtf8 text → SpellsString (quoted text) text
quoted_spelled text (cs, (s, e)) =
    record {
      units = units cs;
      each = all_units cs s;
      whole = ap (λ z. 34 ∷ z ++ 34 ∷ []) (ap (flat_map written) (sym e) ∙ sym (units_spelled cs));
      means = sym e ∙ sym (units_meant cs);
    }
