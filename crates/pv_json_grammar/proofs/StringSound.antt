-- What is read is spelled: strings.
use Rattle.std.proofs.Common.{◌≡◌, ℕ, zero, suc, ◌+◌, ◌-◌, ◌*◌, ◌/◌, ◌%◌, ◌<◌, ◌≤◌, Bool, true, false, cond, List, [], ◌∷◌, ◌++◌, length, take, drop, Ok, Err, refl, sym, ap, ◌∙◌, subst, inl, inr, append_assoc, append-nil, add-one, arith}
use Rattle.std.proofs.lemmas.Bool.{le-leb, lt-ltb, le-ltb, leb-true, leb-false, ltb-true, ltb-false, eqb-true, eqb-false, cases_lt, and_parts, false≢true}
use Rattle.std.proofs.lemmas.Bool.Decides.{eqb_tells}
use Rattle.std.proofs.lemmas.Str.{encode_ascii}
use Rattle.std.proofs.Math.Utf8.{low_scalar}
use Rattle.std.specs.Char.{IsScalar, encode_utf8}
use Rattle.std.specs.Prelude.{◌⊎◌, ◌==◌, ◌||◌, ◌&&◌, nat_le, nat_lt, if◌then◌else◌}
use Rattle.pv_json_grammar.specs.Reading.{Reads, byte_in}
use Rattle.pv_number.specs.Scanning.{◌>>=◌}
use Rattle.pv_json_grammar.specs.Strings.{raw, raw_third, second_least, second_most, hex_value, hex, two, first_code, low_code, is_high, joined, unicode, escaped, escape, ends_plain, plain, turn, after_plain, goes_on, string_from, string}
use Rattle.pv_json_grammar.specs.SpelledStrings.{Digits, SpellsUnit, raw_unit, short_unit, code_unit, pair_unit, AllUnits, spelled, meant, SpellsString}
use Rattle.pv_json_grammar.proofs.Binds.{bind_ok, ok_same, absurd_ok, chosen}

byte_sound : (lo hi : ℕ) (bs : List ℕ) (x : ℕ × List ℕ) → byte_in lo hi bs ≡ Ok x → (bs ≡ x.0 ∷ x.1) × (lo ≤ x.0) × (x.0 ≤ hi)
unfolding byte_in
byte_sound lo hi [] x e = absurd_ok _ _ e
byte_sound lo hi (b ∷ bs) x e = elim (chosen (nat_le lo b && nat_le b hi) (Ok (b, bs)) (Err (length bs + 1)) (Ok x) e) [
  | inl h ↦ (let p = and_parts (nat_le lo b) (nat_le b hi) h.0 in
      subst (λ (x : ℕ × List ℕ). (b ∷ bs ≡ x.0 ∷ x.1) × (lo ≤ x.0) × (x.0 ≤ hi)) (ok_same _ _ h.1) (refl, leb-true lo b p.0, leb-true b hi p.1))
  | inr h ↦ absurd_ok _ _ h.1
]

hex_sound : (lo hi : ℕ) (bs : List ℕ) (x : ℕ × List ℕ) → hex lo hi bs ≡ Ok x → (b : ℕ) × (bs ≡ b ∷ x.1) × (x.0 ≡ hex_value b) × (lo ≤ x.0) × (x.0 ≤ hi)
unfolding hex
hex_sound lo hi [] x e = absurd_ok _ _ e
hex_sound lo hi (b ∷ bs) x e = elim (chosen (nat_le lo (hex_value b) && nat_le (hex_value b) hi) (Ok (hex_value b, bs)) (Err (length bs + 1)) (Ok x) e) [
  | inl h ↦ (let p = and_parts (nat_le lo (hex_value b)) (nat_le (hex_value b) hi) h.0 in
      let q = subst (λ (x : ℕ × List ℕ). (b ∷ bs ≡ b ∷ x.1) × (x.0 ≡ hex_value b) × (lo ≤ x.0) × (x.0 ≤ hi)) (ok_same _ _ h.1) (refl, refl, leb-true lo (hex_value b) p.0, leb-true (hex_value b) hi p.1) in
      (b, q.0, q.1, q.2, q.3))
  | inr h ↦ absurd_ok _ _ h.1
]

-- what a reading of these bytes stands for
abbrev pub IsRaw : List ℕ → List ℕ → Type 0
IsRaw bs v = (c : ℕ) × IsScalar c × (128 ≤ c) × (v ≡ encode_utf8 c)

low_second : (b d : ℕ) → b < 224 → second_least b ≤ d → d ≤ second_most b → (128 ≤ d) × (d ≤ 191)
low_second b d l p q = grind (arith, eqb_tells)

or_left : (x y : Bool) → (x || y) ≡ false → x ≡ false
or_left true y e = e
or_left false y e = refl

or_right : (x y : Bool) → (x || y) ≡ false → y ≡ false
or_right true y e = absurd (false≢true (sym e))
or_right false y e = e

in_range : (c : ℕ) → (c < 55296) ⊎ (57344 ≤ c) → c < 1114112 → IsScalar c
in_range c (inl l) h = low_scalar c l
in_range c (inr g) h = rw (le-ltb c 55296 (omega arith), le-leb 57344 c g, lt-ltb c 1114112 h) refl

two_bytes : (b d : ℕ) → 194 ≤ b → b < 224 → 128 ≤ d → d ≤ 191 → (c : ℕ) × IsScalar c × (128 ≤ c) × (b ∷ d ∷ [] ≡ encode_utf8 c)
unfolding encode_utf8
two_bytes b d p q r s = by ((b - 192) * 64 + (d - 128)) refl
  where
    by : (c : ℕ) → c ≡ (b - 192) * 64 + (d - 128) → (c : ℕ) × IsScalar c × (128 ≤ c) × (b ∷ d ∷ [] ≡ encode_utf8 c)
    by c e =
        let first : 192 + c / 64 ≡ b = omega arith in
        let last : 128 + c % 64 ≡ d = omega arith in
        (c, low_scalar c (omega arith), omega arith, rw (le-ltb c 128 (omega arith), lt-ltb c 2048 (omega arith), first, last) refl)

three_range : (b d e c : ℕ) → 224 ≤ b → b < 240 → second_least b ≤ d → d ≤ second_most b → 128 ≤ e → e ≤ 191 → c ≡ (b - 224) * 4096 + ((d - 128) * 64 + (e - 128))
    → (128 ≤ d) × (d ≤ 191) × (2048 ≤ c)
three_range b d e c p q r s t u w = grind (arith, eqb_tells)

three_scalar : (b d e c : ℕ) → 224 ≤ b → b < 240 → second_least b ≤ d → d ≤ second_most b → 128 ≤ e → e ≤ 191 → c ≡ (b - 224) * 4096 + ((d - 128) * 64 + (e - 128))
    → (c < 55296) ⊎ (57344 ≤ c)
three_scalar b d e c p q r s t u w = elim (cases_lt c 55296) [
  | inl h ↦ inl h
  | inr h ↦ inr (high h)
]
  where
    high : 55296 ≤ c → 57344 ≤ c
    high h = grind (arith, eqb_tells)

three_bytes : (b d e : ℕ) → 224 ≤ b → b < 240 → second_least b ≤ d → d ≤ second_most b → 128 ≤ e → e ≤ 191 → (c : ℕ) × IsScalar c × (128 ≤ c) × (b ∷ d ∷ e ∷ [] ≡ encode_utf8 c)
unfolding encode_utf8
three_bytes b d e p q r s t u = by ((b - 224) * 4096 + ((d - 128) * 64 + (e - 128))) refl
  where
    by : (c : ℕ) → c ≡ (b - 224) * 4096 + ((d - 128) * 64 + (e - 128)) → (c : ℕ) × IsScalar c × (128 ≤ c) × (b ∷ d ∷ e ∷ [] ≡ encode_utf8 c)
    by c w =
        let g : (128 ≤ d) × (d ≤ 191) × (2048 ≤ c) = three_range b d e c p q r s t u w in
        let first : 224 + c / 4096 ≡ b = omega arith in
        let second : 128 + c / 64 % 64 ≡ d = omega arith in
        let last : 128 + c % 64 ≡ e = omega arith in (
          c,
          in_range c (three_scalar b d e c p q r s t u w) (omega arith),
          omega arith,
          rw (le-ltb c 128 (omega arith), le-ltb c 2048 (omega arith), lt-ltb c 65536 (omega arith), first, second, last) refl,
        )

four_range : (b d e f c : ℕ) → 240 ≤ b → b ≤ 244 → second_least b ≤ d → d ≤ second_most b → 128 ≤ e → e ≤ 191 → 128 ≤ f → f ≤ 191
    → c ≡ (b - 240) * 262144 + ((d - 128) * 4096 + ((e - 128) * 64 + (f - 128))) → (128 ≤ d) × (d ≤ 191) × (65536 ≤ c) × (c < 1114112)
four_range b d e f c p q r s t u v w z = grind (arith, eqb_tells)

four_bytes : (b d e f : ℕ) → 240 ≤ b → b ≤ 244 → second_least b ≤ d → d ≤ second_most b → 128 ≤ e → e ≤ 191 → 128 ≤ f → f ≤ 191
    → (c : ℕ) × IsScalar c × (128 ≤ c) × (b ∷ d ∷ e ∷ f ∷ [] ≡ encode_utf8 c)
unfolding encode_utf8
four_bytes b d e f p q r s t u v w = by ((b - 240) * 262144 + ((d - 128) * 4096 + ((e - 128) * 64 + (f - 128)))) refl
  where
    by : (c : ℕ) → c ≡ (b - 240) * 262144 + ((d - 128) * 4096 + ((e - 128) * 64 + (f - 128))) → (c : ℕ) × IsScalar c × (128 ≤ c) × (b ∷ d ∷ e ∷ f ∷ [] ≡ encode_utf8 c)
    by c z =
        let g : (128 ≤ d) × (d ≤ 191) × (65536 ≤ c) × (c < 1114112) = four_range b d e f c p q r s t u v w z in
        let first : 240 + c / 262144 ≡ b = omega arith in
        let second : 128 + c / 4096 % 64 ≡ d = omega arith in
        let third : 128 + c / 64 % 64 ≡ e = omega arith in
        let last : 128 + c % 64 ≡ f = omega arith in (
          c,
          in_range c (inr (omega arith)) g.3,
          omega arith,
          rw (le-ltb c 128 (omega arith), le-ltb c 2048 (omega arith), le-ltb c 65536 (omega arith), first, second, third, last) refl,
        )

-- what was read of a list, and what it stands for
abbrev RawRead : List ℕ → List ℕ × List ℕ → Type 0
RawRead bs y = (c : ℕ) × IsScalar c × (128 ≤ c) × (y.0 ≡ encode_utf8 c) × (bs ≡ y.0 ++ y.1)

raw_read : (bs v rest : List ℕ) (y : List ℕ × List ℕ) → ((c : ℕ) × IsScalar c × (128 ≤ c) × (v ≡ encode_utf8 c)) → bs ≡ v ++ rest
    → (let a : Reads (List ℕ) = Ok (v, rest) in a) ≡ Ok y → RawRead bs y
raw_read bs v rest y r w e = subst (RawRead bs) (ok_same _ _ e) (r.0, r.1, r.2, r.3, w)

raw_sound : (bs : List ℕ) (y : List ℕ × List ℕ) → raw bs ≡ Ok y → RawRead bs y
unfolding raw
raw_sound [] y e = absurd_ok _ _ e
raw_sound (b ∷ bs) y e = elim (chosen (nat_lt b 194 || nat_lt 244 b) _ _ (Ok y) e) [
  | inl h ↦ absurd_ok _ _ h.1
  | inr h ↦ second (ltb-false b 194 (or_left _ _ h.0)) (ltb-false 244 b (or_right (nat_lt b 194) _ h.0)) h.1
]
  where
    fourth : (c d : ℕ × List ℕ) → bs ≡ c.0 ∷ c.1 → c.1 ≡ d.0 ∷ d.1 → 240 ≤ b → b ≤ 244 → second_least b ≤ c.0 → c.0 ≤ second_most b → 128 ≤ d.0 → d.0 ≤ 191
        → (byte_in 128 191 d.1 >>= λ e. Ok (b ∷ c.0 ∷ d.0 ∷ e.0 ∷ [], e.1)) ≡ Ok y → RawRead (b ∷ bs) y
    fourth c d v w l h p q s t e =
        let f = bind_ok (byte_in 128 191 d.1) (λ e. Ok (b ∷ c.0 ∷ d.0 ∷ e.0 ∷ [], e.1)) y e in
        let g = byte_sound 128 191 d.1 f.0 f.1 in
        raw_read (b ∷ bs) (b ∷ c.0 ∷ d.0 ∷ (f.0).0 ∷ []) (f.0).1 y (four_bytes b c.0 d.0 (f.0).0 l h p q s t g.1 g.2)
        (ap (λ z. b ∷ z) v ∙ ap (λ z. b ∷ c.0 ∷ z) w ∙ ap (λ z. b ∷ c.0 ∷ d.0 ∷ z) g.0) f.2

    third : (c : ℕ × List ℕ) → bs ≡ c.0 ∷ c.1 → 224 ≤ b → b ≤ 244 → second_least b ≤ c.0 → c.0 ≤ second_most b → raw_third b c.0 c.1 ≡ Ok y → RawRead (b ∷ bs) y
    third c v l h p q e =
        let d = bind_ok (byte_in 128 191 c.1) (λ d. if nat_lt b 240 then Ok (b ∷ c.0 ∷ d.0 ∷ [], d.1) else byte_in 128 191 d.1 >>= λ e. Ok (b ∷ c.0 ∷ d.0 ∷ e.0 ∷ [], e.1)) y e in
        let g = byte_sound 128 191 c.1 d.0 d.1 in
        elim (chosen (nat_lt b 240) (Ok (b ∷ c.0 ∷ (d.0).0 ∷ [], (d.0).1)) (byte_in 128 191 (d.0).1 >>= λ e. Ok (b ∷ c.0 ∷ (d.0).0 ∷ e.0 ∷ [], e.1)) (Ok y) d.2) [
          | inl k ↦ raw_read (b ∷ bs) (b ∷ c.0 ∷ (d.0).0 ∷ []) (d.0).1 y (three_bytes b c.0 (d.0).0 l (ltb-true b 240 k.0) p q g.1 g.2) (ap (λ z. b ∷ z) v ∙ ap (λ z. b ∷ c.0 ∷ z) g.0) k.1
          | inr k ↦ fourth c d.0 v g.0 (ltb-false b 240 k.0) h p q g.1 g.2 k.1
        ]

    second : 194 ≤ b → b ≤ 244 → (byte_in (second_least b) (second_most b) bs >>= λ c. if nat_lt b 224 then Ok (b ∷ c.0 ∷ [], c.1) else raw_third b c.0 c.1) ≡ Ok y → RawRead (b ∷ bs) y
    second l h e =
        let c = bind_ok (byte_in (second_least b) (second_most b) bs) (λ c. if nat_lt b 224 then Ok (b ∷ c.0 ∷ [], c.1) else raw_third b c.0 c.1) y e in
        let g = byte_sound (second_least b) (second_most b) bs c.0 c.1 in
        elim (chosen (nat_lt b 224) (Ok (b ∷ (c.0).0 ∷ [], (c.0).1)) (raw_third b (c.0).0 (c.0).1) (Ok y) c.2) [
          | inl k ↦ (let s = low_second b (c.0).0 (ltb-true b 224 k.0) g.1 g.2 in
              raw_read (b ∷ bs) (b ∷ (c.0).0 ∷ []) (c.0).1 y (two_bytes b (c.0).0 l (ltb-true b 224 k.0) s.0 s.1) (ap (λ z. b ∷ z) g.0) k.1)
          | inr k ↦ third c.0 g.0 (ltb-false b 224 k.0) h g.1 g.2 k.1
        ]

two_sound : (n : ℕ) (bs : List ℕ) (y : ℕ × List ℕ) → two n bs ≡ Ok y
    → (c : ℕ) × (d : ℕ) × (bs ≡ c ∷ d ∷ y.1) × (hex_value c < 16) × (hex_value d < 16) × (y.0 ≡ (n * 16 + hex_value c) * 16 + hex_value d)
unfolding two
two_sound n bs y e =
    let p = bind_ok (hex 0 15 bs) (λ c. hex 0 15 c.1 >>= λ d. Ok ((n * 16 + c.0) * 16 + d.0, d.1)) y e in
    let q = bind_ok (hex 0 15 (p.0).1) (λ d. Ok ((n * 16 + (p.0).0) * 16 + d.0, d.1)) y p.2 in
    let c = hex_sound 0 15 bs p.0 p.1 in
    let d = hex_sound 0 15 (p.0).1 q.0 q.1 in
    let same = ok_same _ _ q.2 in
    let small_c : hex_value c.0 < 16 = (let l : (p.0).0 ≤ 15 = c.4 in let m : (p.0).0 ≡ hex_value c.0 = c.2 in omega arith) in
    let small_d : hex_value d.0 < 16 = (let l : (q.0).0 ≤ 15 = d.4 in let m : (q.0).0 ≡ hex_value d.0 = d.2 in omega arith) in (
      c.0,
      d.0,
      c.1 ∙ ap (λ z. c.0 ∷ z) d.1 ∙ ap (λ (z : ℕ × List ℕ). c.0 ∷ d.0 ∷ z.1) same,
      small_c,
      small_d,
      ap (λ (z : ℕ × List ℕ). z.0) (sym same) ∙ ap (λ x. (n * 16 + x) * 16 + (q.0).0) c.2 ∙ ap (λ x. (n * 16 + hex_value c.0) * 16 + x) d.2,
    )

code_range : (x y z w u m : ℕ) → x ≤ 15 → y ≤ m → m ≡ (if x == 13 then 11 else 15) → z < 16 → w < 16 → u ≡ ((x * 16 + y) * 16 + z) * 16 + w → (u < 56320) ⊎ (57344 ≤ u)
code_range x y z w u m p q e r s f = elim (cases_lt u 56320) [
  | inl h ↦ inl h
  | inr h ↦ inr (high h)
]
  where
    high : 56320 ≤ u → 57344 ≤ u
    high h = grind (arith, eqb_tells)

first_sound : (bs : List ℕ) (y : ℕ × List ℕ) → first_code bs ≡ Ok y → (t : List ℕ) × Digits t y.0 × (bs ≡ t ++ y.1) × ((y.0 < 56320) ⊎ (57344 ≤ y.0))
unfolding first_code
first_sound bs y e =
    let p = bind_ok (hex 0 15 bs) (λ a. hex 0 (if a.0 == 13 then 11 else 15) a.1 >>= λ b. two (a.0 * 16 + b.0) b.1) y e in
    let m : ℕ = if (p.0).0 == 13 then 11 else 15 in
    let q = bind_ok (hex 0 m (p.0).1) (λ b. two ((p.0).0 * 16 + b.0) b.1) y p.2 in
    let a = hex_sound 0 15 bs p.0 p.1 in
    let b = hex_sound 0 m (p.0).1 q.0 q.1 in
    let t = two_sound ((p.0).0 * 16 + (q.0).0) (q.0).1 y q.2 in
    let small_b : (q.0).0 ≤ 15 = most (p.0).0 (q.0).0 b.4 in (
      a.0 ∷ b.0 ∷ t.0 ∷ t.1 ∷ [],
      record {
        a = a.0;
        b = b.0;
        c = t.0;
        d = t.1;
        whole = refl;
        small_a = (let l : (p.0).0 ≤ 15 = a.4 in let m : (p.0).0 ≡ hex_value a.0 = a.2 in omega arith);
        small_b = (let m : (q.0).0 ≡ hex_value b.0 = b.2 in omega arith);
        small_c = t.3;
        small_d = t.4;
        counts = t.5 ∙ ap (λ x. ((x * 16 + (q.0).0) * 16 + hex_value t.0) * 16 + hex_value t.1) a.2 ∙ ap (λ x. ((hex_value a.0 * 16 + x) * 16 + hex_value t.0) * 16 + hex_value t.1) b.2;
      },
      a.1 ∙ ap (λ z. a.0 ∷ z) b.1 ∙ ap (λ z. a.0 ∷ b.0 ∷ z) t.2,
      code_range (p.0).0 (q.0).0 (hex_value t.0) (hex_value t.1) y.0 m a.4 b.4 refl t.3 t.4 t.5,
    )
  where
    most : (x y : ℕ) → y ≤ (if x == 13 then 11 else 15) → y ≤ 15
    most x y l = grind (arith, eqb_tells)

low_sound : (bs : List ℕ) (y : ℕ × List ℕ) → low_code bs ≡ Ok y → (t : List ℕ) × Digits t y.0 × (bs ≡ 92 ∷ 117 ∷ (t ++ y.1)) × (56320 ≤ y.0) × (y.0 < 57344)
unfolding low_code
low_sound bs y e =
    let i = bind_ok (byte_in 92 92 bs) (λ p. byte_in 117 117 p.1 >>= λ q. hex 13 13 q.1 >>= λ a. hex 12 15 a.1 >>= λ b. two (208 + b.0) b.1) y e in
    let j = bind_ok (byte_in 117 117 (i.0).1) (λ q. hex 13 13 q.1 >>= λ a. hex 12 15 a.1 >>= λ b. two (208 + b.0) b.1) y i.2 in
    let p = bind_ok (hex 13 13 (j.0).1) (λ a. hex 12 15 a.1 >>= λ b. two (208 + b.0) b.1) y j.2 in
    let q = bind_ok (hex 12 15 (p.0).1) (λ b. two (208 + b.0) b.1) y p.2 in
    let s = byte_sound 92 92 bs i.0 i.1 in
    let r = byte_sound 117 117 (i.0).1 j.0 j.1 in
    let a = hex_sound 13 13 (j.0).1 p.0 p.1 in
    let b = hex_sound 12 15 (p.0).1 q.0 q.1 in
    let t = two_sound (208 + (q.0).0) (q.0).1 y q.2 in
    let is_back : (i.0).0 ≡ 92 = only 92 (i.0).0 s.1 s.2 in
    let is_u : (j.0).0 ≡ 117 = only 117 (j.0).0 r.1 r.2 in
    let is_d : 13 ≡ hex_value a.0 = sym (only 13 (p.0).0 a.3 a.4) ∙ a.2 in
    let range = within (q.0).0 (hex_value t.0) (hex_value t.1) y.0 b.3 b.4 t.3 t.4 t.5 in (
      a.0 ∷ b.0 ∷ t.0 ∷ t.1 ∷ [],
      record {
        a = a.0;
        b = b.0;
        c = t.0;
        d = t.1;
        whole = refl;
        small_a = omega arith;
        small_b = (let l : (q.0).0 ≤ 15 = b.4 in let m : (q.0).0 ≡ hex_value b.0 = b.2 in omega arith);
        small_c = t.3;
        small_d = t.4;
        counts = t.5 ∙ ap (λ x. ((x * 16 + (q.0).0) * 16 + hex_value t.0) * 16 + hex_value t.1) is_d ∙ ap (λ x. ((hex_value a.0 * 16 + x) * 16 + hex_value t.0) * 16 + hex_value t.1) b.2;
      },
      s.0 ∙ ap (λ (z : ℕ). z ∷ (i.0).1) is_back ∙ ap (λ z. 92 ∷ z) r.0 ∙ ap (λ (z : ℕ). 92 ∷ z ∷ (j.0).1) is_u ∙ ap (λ z. 92 ∷ 117 ∷ z) a.1 ∙ ap (λ z. 92 ∷ 117 ∷ a.0 ∷ z) b.1 ∙ ap (λ z. 92 ∷ 117 ∷ a.0 ∷ b.0 ∷ z) t.2,
      range.0,
      range.1,
    )
  where
    only : (n x : ℕ) → n ≤ x → x ≤ n → x ≡ n
    only n x p q = omega arith

    within : (y z w v : ℕ) → 12 ≤ y → y ≤ 15 → z < 16 → w < 16 → v ≡ ((208 + y) * 16 + z) * 16 + w → (56320 ≤ v) × (v < 57344)
    within y z w v p q r s e = (omega arith, omega arith)

-- one unit and what follows it
abbrev UnitRead : List ℕ → List ℕ × List ℕ → Type 0
UnitRead bs y = (text : List ℕ) × SpellsUnit text y.0 × (bs ≡ text ++ y.1)

no_pair : (u : ℕ) → (u < 56320) ⊎ (57344 ≤ u) → is_high u ≡ false → (u < 55296) ⊎ (57344 ≤ u)
no_pair u (inr h) e = inr h
no_pair u (inl h) e = elim (cases_lt u 55296) [
  | inl l ↦ inl l
  | inr g ↦ absurd (false≢true (sym e ∙ rw (le-leb 55296 u g, lt-ltb u 56320 h) refl))
]

below_low : (u : ℕ) → (u < 56320) ⊎ (57344 ≤ u) → is_high u ≡ true → (55296 ≤ u) × (u < 56320)
below_low u h e = let p = and_parts (nat_le 55296 u) (nat_lt u 56320) e in (leb-true 55296 u p.0, ltb-true u 56320 p.1)

unicode_sound : (bs : List ℕ) (y : List ℕ × List ℕ) → unicode bs ≡ Ok y → UnitRead (92 ∷ 117 ∷ bs) y
unfolding unicode
unicode_sound bs y e =
    let p = bind_ok (first_code bs) (λ u. if is_high u.0 then low_code u.1 >>= (λ v. Ok (encode_utf8 (joined u.0 v.0), v.1)) else Ok (encode_utf8 u.0, u.1)) y e in
    let u = p.0 in
    let f = first_sound bs u p.1 in
    elim (chosen (is_high u.0) (low_code u.1 >>= (λ v. Ok (encode_utf8 (joined u.0 v.0), v.1))) (Ok (encode_utf8 u.0, u.1)) (Ok y) p.2) [
      | inl h ↦ paired u f.0 f.1 f.2 (below_low u.0 f.3 h.0) h.1
      | inr h ↦ subst (UnitRead (92 ∷ 117 ∷ bs)) (ok_same _ _ h.1) (92 ∷ 117 ∷ f.0, code_unit u.0 f.0 f.1 (no_pair u.0 f.3 h.0) refl refl, ap (λ z. 92 ∷ 117 ∷ z) f.2)
    ]
  where
    paired : (u : ℕ × List ℕ) (s : List ℕ) → Digits s u.0 → bs ≡ s ++ u.1 → (55296 ≤ u.0) × (u.0 < 56320) → (low_code u.1 >>= (λ v. Ok (encode_utf8 (joined u.0 v.0), v.1))) ≡ Ok y
        → UnitRead (92 ∷ 117 ∷ bs) y
    paired u s d w r e =
        let q = bind_ok (low_code u.1) (λ v. Ok (encode_utf8 (joined u.0 v.0), v.1)) y e in
        let v = q.0 in
        let l = low_sound u.1 v q.1 in
        subst (UnitRead (92 ∷ 117 ∷ bs)) (ok_same _ _ q.2) (
          92 ∷ 117 ∷ (s ++ (92 ∷ 117 ∷ l.0)),
          pair_unit u.0 v.0 s l.0 d l.1 r.0 r.1 l.3 l.4 refl refl,
          ap (λ z. 92 ∷ 117 ∷ z) (w ∙ ap (λ z. s ++ z) l.2 ∙ sym (append_assoc s (92 ∷ 117 ∷ l.0) v.1)),
        )

escape_sound : (bs : List ℕ) (y : List ℕ × List ℕ) → escape bs ≡ Ok y → UnitRead (92 ∷ bs) y
unfolding escape
escape_sound [] y e = absurd_ok _ _ e
escape_sound (b ∷ bs) y e = elim (chosen (b == 117) (unicode bs) (if escaped b == 0 then Err (length bs + 1) else Ok (escaped b ∷ [], bs)) (Ok y) e) [
  | inl h ↦ subst (λ c. UnitRead (92 ∷ c ∷ bs) y) (sym (eqb-true b 117 h.0)) (unicode_sound bs y h.1)
  | inr h ↦ elim (chosen (escaped b == 0) (Err (length bs + 1)) (Ok (escaped b ∷ [], bs)) (Ok y) h.1) [
    | inl g ↦ absurd_ok _ _ g.1
    | inr g ↦ subst (UnitRead (92 ∷ b ∷ bs)) (ok_same _ _ g.1) (92 ∷ b ∷ [], short_unit b (eqb-false (escaped b) 0 g.0) refl refl, refl)
  ]
]

plain_unit : (b : ℕ) → ends_plain b ≡ false → SpellsUnit (b ∷ []) (b ∷ [])
plain_unit b e =
    let p : (nat_lt b 32 || nat_le 128 b || b == 34) ≡ false = or_left (nat_lt b 32 || nat_le 128 b || b == 34) (b == 92) e in
    let q : (nat_lt b 32 || nat_le 128 b) ≡ false = or_left (nat_lt b 32 || nat_le 128 b) (b == 34) p in
    let small : b < 128 = leb-false 128 b (or_right (nat_lt b 32) (nat_le 128 b) q) in
    let same = sym (encode_ascii b small) in
    raw_unit b (low_scalar b (omega arith)) (ltb-false b 32 (or_left (nat_lt b 32) (nat_le 128 b) q))
    (eqb-false b 34 (or_right (nat_lt b 32 || nat_le 128 b) (b == 34) p)) (eqb-false b 92 (or_right (nat_lt b 32 || nat_le 128 b || b == 34) (b == 92) e)) same same

-- units that stand here, and what is left
abbrev UnitsRead : List ℕ → List ℕ → List ℕ → Type 0
UnitsRead bs v rest = (us : List (List ℕ × List ℕ)) × AllUnits us × (bs ≡ spelled us ++ rest) × (v ≡ meant us)

plain_units : (bs : List ℕ) → UnitsRead bs (take (plain bs) bs) (drop (plain bs) bs)
unfolding plain
plain_units [] = ([], tt, refl, refl)
plain_units (b ∷ bs) = by (ends_plain b) refl (plain_units bs)
  where
    by : (t : Bool) → ends_plain b ≡ t → UnitsRead bs (take (plain bs) bs) (drop (plain bs) bs)
        → UnitsRead (b ∷ bs) (take (cond t 0 (plain bs + 1)) (b ∷ bs)) (drop (cond t 0 (plain bs + 1)) (b ∷ bs))
    by true e m = ([], tt, refl, refl)
    by false e m = rw (add-one (plain bs)) ((b ∷ [], b ∷ []) ∷ m.0, (plain_unit b e, m.1), ap (λ z. b ∷ z) m.2, ap (λ z. b ∷ z) m.3)

spelled_append : (us vs : List (List ℕ × List ℕ)) → spelled (us ++ vs) ≡ spelled us ++ spelled vs
spelled_append [] vs = refl
spelled_append (u ∷ us) vs = ap (λ z. u.0 ++ z) (spelled_append us vs) ∙ sym (append_assoc u.0 (spelled us) (spelled vs))

meant_append : (us vs : List (List ℕ × List ℕ)) → meant (us ++ vs) ≡ meant us ++ meant vs
meant_append [] vs = refl
meant_append (u ∷ us) vs = ap (λ z. u.1 ++ z) (meant_append us vs) ∙ sym (append_assoc u.1 (meant us) (meant vs))

all_append : (us vs : List (List ℕ × List ℕ)) → AllUnits us → AllUnits vs → AllUnits (us ++ vs)
all_append [] vs a b = b
all_append (u ∷ us) vs a b = (a.0, all_append us vs a.1 b)

-- units, and units behind them
join_units : (bs v mid w rest : List ℕ) → UnitsRead bs v mid → UnitsRead mid w rest → UnitsRead bs (v ++ w) rest
join_units bs v mid w rest (us, a, e, f) (vs, b, g, h) = (
  us ++ vs,
  all_append us vs a b,
  e ∙ ap (λ z. spelled us ++ z) g ∙ sym (append_assoc (spelled us) (spelled vs) rest) ∙ ap (λ z. z ++ rest) (sym (spelled_append us vs)),
  ap (λ z. z ++ w) f ∙ ap (λ z. meant us ++ z) h ∙ sym (meant_append us vs),
)

one_unit : (bs : List ℕ) (y : List ℕ × List ℕ) → UnitRead bs y → UnitsRead bs y.0 y.1
one_unit bs y (t, u, e) = ((t, y.0) ∷ [], (u, tt), e ∙ ap (λ z. z ++ y.1) (sym (append-nil t)), sym (append-nil y.0))

raw_one : (bs : List ℕ) (y : List ℕ × List ℕ) → RawRead bs y → UnitRead bs y
raw_one bs y (c, s, l, e, w) = (y.0, raw_unit c s (omega arith) (λ k. absurd (omega arith)) (λ k. absurd (omega arith)) e e, w)

-- units and the quote behind them
abbrev TextRead : List ℕ → List ℕ → List ℕ × List ℕ → Type 0
TextRead bs out y = (us : List (List ℕ × List ℕ)) × AllUnits us × (bs ≡ spelled us ++ 34 ∷ y.1) × (y.0 ≡ out ++ meant us)

behind : (bs out v mid : List ℕ) (y : List ℕ × List ℕ) → UnitsRead bs v mid → TextRead mid (out ++ v) y → TextRead bs out y
behind bs out v mid y u (vs, b, g, h) =
    let j = join_units bs v mid (meant vs) (34 ∷ y.1) u (vs, b, g, refl) in
    (j.0, j.1, j.2, h ∙ append_assoc out v (meant vs) ∙ ap (λ z. out ++ z) j.3)

-- one turn: the quote, or a unit
abbrev TurnRead : List ℕ → List ℕ → Bool × List ℕ × List ℕ → Type 0
TurnRead out bs x = ((x.0 ≡ true) × (bs ≡ 34 ∷ x.2) × (x.1 ≡ out)) ⊎ ((v : List ℕ) × (x.0 ≡ false) × UnitRead bs (v, x.2) × (x.1 ≡ out ++ v))

turn_sound : (out bs : List ℕ) (x : Bool × List ℕ × List ℕ) → after_plain out bs ≡ Ok x → TurnRead out bs x
turn_sound out [] x e = absurd_ok _ _ e
turn_sound out (b ∷ bs) x e = elim (chosen (b == 34) (Ok (true, out, bs)) (if b == 92 then goes_on out (escape bs) else goes_on out (raw (b ∷ bs))) (Ok x) e) [
  | inl h ↦ subst (TurnRead out (b ∷ bs)) (ok_same _ _ h.1) (inl (refl, ap (λ (c : ℕ). c ∷ bs) (eqb-true b 34 h.0), refl))
  | inr h ↦ elim (chosen (b == 92) (goes_on out (escape bs)) (goes_on out (raw (b ∷ bs))) (Ok x) h.1) [
    | inl g ↦ (let q = bind_ok (escape bs) (λ x. Ok (false, out ++ x.0, x.1)) x g.1 in
        subst (TurnRead out (b ∷ bs)) (ok_same _ _ q.2) (inr ((q.0).0, refl, subst (λ c. UnitRead (c ∷ bs) q.0) (sym (eqb-true b 92 g.0)) (escape_sound bs q.0 q.1), refl)))
    | inr g ↦ (let q = bind_ok (raw (b ∷ bs)) (λ x. Ok (false, out ++ x.0, x.1)) x g.1 in
        subst (TurnRead out (b ∷ bs)) (ok_same _ _ q.2) (inr ((q.0).0, refl, raw_one (b ∷ bs) q.0 (raw_sound (b ∷ bs) q.0 q.1), refl)))
  ]
]

from_sound : (k : ℕ) (out bs : List ℕ) (y : List ℕ × List ℕ) → string_from k out bs ≡ Ok y → TextRead bs out y
unfolding string_from turn
from_sound zero out bs y e = absurd_ok _ _ e
from_sound (suc k) out bs y e =
    let old : List ℕ = out ++ take (plain bs) bs in
    let mid : List ℕ = drop (plain bs) bs in
    let q = bind_ok (after_plain old mid) (λ x. if x.0 then Ok (x.1, x.2) else string_from k x.1 x.2) y e in
    behind bs out (take (plain bs) bs) mid y (plain_units bs) (by (from_sound k) old mid q.0 (turn_sound old mid q.0 q.1) q.2)
  where
    by : ((out bs : List ℕ) (y : List ℕ × List ℕ) → string_from k out bs ≡ Ok y → TextRead bs out y)
        → (out bs : List ℕ) (x : Bool × List ℕ × List ℕ) → TurnRead out bs x → (if x.0 then Ok (x.1, x.2) else string_from k x.1 x.2) ≡ Ok y → TextRead bs out y
    by more out bs x (inl (h, w, o)) e =
        let same = ok_same _ _ (ap (λ t. cond t (Ok (x.1, x.2)) (string_from k x.1 x.2)) (sym h) ∙ e) in
        ([], tt, w ∙ ap (λ (z : List ℕ × List ℕ). 34 ∷ z.1) same, ap (λ (z : List ℕ × List ℕ). z.0) (sym same) ∙ o ∙ sym (append-nil out))
    by more out bs x (inr (v, h, u, o)) e =
        let r = more x.1 x.2 y (ap (λ t. cond t (Ok (x.1, x.2)) (string_from k x.1 x.2)) (sym h) ∙ e) in
        behind bs out v x.2 y (one_unit bs (v, x.2) u) (subst (λ o. TextRead x.2 o y) o r)

-- a text behind its opening quote
pub string_sound : (bs : List ℕ) (y : List ℕ × List ℕ) → string bs ≡ Ok y → (text : List ℕ) × SpellsString text y.0 × (34 ∷ bs ≡ text ++ y.1)
string_sound bs y e =
    let r = from_sound (length bs) [] bs y e in (
      34 ∷ (spelled r.0 ++ 34 ∷ []),
      record { units = r.0; each = r.1; whole = refl; means = r.3 },
      ap (λ z. 34 ∷ z) (r.2 ∙ sym (append_assoc (spelled r.0) (34 ∷ []) y.1)),
    )
