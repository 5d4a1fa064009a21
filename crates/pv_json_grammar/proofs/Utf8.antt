-- What encodes a character is read.
use Rattle.std.proofs.Common.{◌≡◌, ◌≢◌, ℕ, ◌+◌, ◌/◌, ◌%◌, ◌<◌, ◌≤◌, Bool, true, false, List, [], ◌∷◌, ◌++◌, Ok, refl, inl, inr, arith}
use Rattle.std.proofs.lemmas.Bool.{le-leb, lt-ltb, le-ltb, ltb-true, ltb-false, ne_eqb}
use Rattle.std.proofs.lemmas.Bool.Decides.{eqb_tells}
use Rattle.std.specs.Char.{IsScalar, encode_utf8}
use Rattle.std.proofs.Math.Utf8.{scalar_cases}
use Rattle.std.specs.Prelude.{◌⊎◌, ◌==◌, nat_lt}
use Rattle.pv_json_grammar.specs.Reading.{byte_in}
use Rattle.pv_json_grammar.specs.Strings.{raw, second_least, second_most}

pub byte_ok : (lo hi b : ℕ) (bs : List ℕ) → lo ≤ b → b ≤ hi → byte_in lo hi (b ∷ bs) ≡ Ok (b, bs)
unfolding byte_in
byte_ok lo hi b bs l h = rw (le-leb lo b l, le-leb b hi h) refl

pub not_same : (a b : ℕ) → a ≢ b → (a == b) ≡ false
not_same a b n = ne_eqb a b n

least_two : (b : ℕ) → b < 224 → second_least b ≡ 128
least_two b l = rw (not_same b 224 (omega arith), not_same b 240 (omega arith)) refl

most_two : (b : ℕ) → b < 224 → second_most b ≡ 191
most_two b l = rw (not_same b 237 (omega arith), not_same b 244 (omega arith)) refl

pub raw_two : (b d : ℕ) (bs : List ℕ) → 194 ≤ b → b < 224 → 128 ≤ d → d ≤ 191 → raw (b ∷ d ∷ bs) ≡ Ok (b ∷ d ∷ [], bs)
unfolding raw
raw_two b d bs p q r s =
    rw (le-ltb b 194 p, le-ltb 244 b (omega arith), least_two b q, most_two b q, byte_ok 128 191 d bs r s, lt-ltb b 224 q) refl

pub raw_three : (b d e : ℕ) (bs : List ℕ) → 224 ≤ b → b < 240 → second_least b ≤ d → d ≤ second_most b → 128 ≤ e → e ≤ 191
    → raw (b ∷ d ∷ e ∷ bs) ≡ Ok (b ∷ d ∷ e ∷ [], bs)
unfolding raw
raw_three b d e bs p q r s t u =
    rw (le-ltb b 194 (omega arith), le-ltb 244 b (omega arith), byte_ok (second_least b) (second_most b) d (e ∷ bs) r s, le-ltb b 224 p, byte_ok 128 191 e bs t u, lt-ltb b 240 q) refl

pub raw_four : (b d e f : ℕ) (bs : List ℕ) → 240 ≤ b → b ≤ 244 → second_least b ≤ d → d ≤ second_most b → 128 ≤ e → e ≤ 191 → 128 ≤ f → f ≤ 191
    → raw (b ∷ d ∷ e ∷ f ∷ bs) ≡ Ok (b ∷ d ∷ e ∷ f ∷ [], bs)
unfolding raw
raw_four b d e f bs p q r s t u v w =
    rw (le-ltb b 194 (omega arith), le-ltb 244 b (omega arith), byte_ok (second_least b) (second_most b) d (e ∷ f ∷ bs) r s, le-ltb b 224 (omega arith), byte_ok 128 191 e (f ∷ bs) t u, le-ltb b 240 p, byte_ok 128 191 f bs v w) refl

-- the second byte of three, of four
second_of_three : (c : ℕ) → 2048 ≤ c → c < 65536 → (c < 55296) ⊎ (57344 ≤ c) → (second_least (224 + c / 4096) ≤ 128 + c / 64 % 64) × (128 + c / 64 % 64 ≤ second_most (224 + c / 4096))
second_of_three c l h s = grind (arith, eqb_tells)

second_of_four : (c : ℕ) → 65536 ≤ c → c < 1114112 → (second_least (240 + c / 262144) ≤ 128 + c / 4096 % 64) × (128 + c / 4096 % 64 ≤ second_most (240 + c / 262144))
second_of_four c l h = grind (arith, eqb_tells)

surrogate : (c : ℕ) → IsScalar c → (c < 55296) ⊎ (57344 ≤ c)
surrogate c s = elim (scalar_cases c s) [ inl h ↦ inl h | inr h ↦ inr h.0 ]

top : (c : ℕ) → IsScalar c → c < 1114112
top c s = elim (scalar_cases c s) [ inl h ↦ omega arith | inr h ↦ h.1 ]

-- a character of several bytes is read
pub encoded : (c : ℕ) (bs : List ℕ) → IsScalar c → 128 ≤ c → raw (encode_utf8 c ++ bs) ≡ Ok (encode_utf8 c, bs)
unfolding encode_utf8
encoded c bs s l = by_size (nat_lt c 2048) (nat_lt c 65536) refl refl
  where
    by_size : (x y : Bool) → nat_lt c 2048 ≡ x → nat_lt c 65536 ≡ y → raw (encode_utf8 c ++ bs) ≡ Ok (encode_utf8 c, bs)
    by_size true y e f = rw (le-ltb c 128 l, e) (raw_two (192 + c / 64) (128 + c % 64) bs (omega arith) (let h : c < 2048 = ltb-true c 2048 e in omega arith) (omega arith) (omega arith))
    by_size false true e f =
        let g : 2048 ≤ c = ltb-false c 2048 e in
        let h : c < 65536 = ltb-true c 65536 f in
        let p = second_of_three c g h (surrogate c s) in
        rw (le-ltb c 128 l, e, f) (raw_three (224 + c / 4096) (128 + c / 64 % 64) (128 + c % 64) bs (omega arith) (omega arith) p.0 p.1 (omega arith) (omega arith))
    by_size false false e f =
        let g : 65536 ≤ c = ltb-false c 65536 f in
        let h : c < 1114112 = top c s in
        let p = second_of_four c g h in
        rw (le-ltb c 128 l, e, f) (raw_four (240 + c / 262144) (128 + c / 4096 % 64) (128 + c / 64 % 64) (128 + c % 64) bs (omega arith) (omega arith) p.0 p.1 (omega arith) (omega arith) (omega arith) (omega arith))
