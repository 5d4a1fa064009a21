-- Runs of bytes that stand for themselves.
use Rattle.std.proofs.Common.{◌≡◌, ℕ, ◌+◌, ◌-◌, ◌<◌, ◌≤◌, List, [], ◌∷◌, ◌++◌, length, get_or, take, drop, refl, sym, ap, ◌∙◌, arith, append_assoc, append-nil, length-drop}
use Rattle.std.specs.Prelude.{◌≢◌}
use Rattle.std.specs.List.{flat_map}
use Rattle.std.proofs.lemmas.List.{take_more, take_all, get_or-drop}
use Rattle.std.proofs.lemmas.Grind.{flat_map-append}
use Rattle.std.proofs.lemmas.Bool.{ne_eqb, le-ltb}
use Rattle.pv_notation.specs.Strings.{escaped, short_escape}

-- `start` bytes are written, and those up to `place` stand for themselves
pub record IsRun (text : List ℕ) (start place : ℕ) : Type 0 where
  pub from : start ≤ place
  pub plain : flat_map escaped (take place text) ≡ flat_map escaped (take start text) ++ take (place - start) (drop start text)

pub plain_byte : (b : ℕ) → 32 ≤ b → b ≢ 34 → b ≢ 92 → escaped b ≡ b ∷ []
unfolding escaped short_escape
plain_byte b l p q =
    rw (
      ne_eqb b 34 p,
      ne_eqb b 92 q,
      ne_eqb b 8 (λ e. omega (arith, e, l)),
      ne_eqb b 12 (λ e. omega (arith, e, l)),
      ne_eqb b 10 (λ e. omega (arith, e, l)),
      ne_eqb b 13 (λ e. omega (arith, e, l)),
      ne_eqb b 9 (λ e. omega (arith, e, l)),
      le-ltb b 32 l,
    ) refl

joined : (xs ys : List ℕ) → flat_map escaped (xs ++ ys) ≡ flat_map escaped xs ++ flat_map escaped ys
joined xs ys = flat_map-append escaped xs ys

pub one_more : (text : List ℕ) (i : ℕ) (d : ℕ) → i < length text → flat_map escaped (take (i + 1) text) ≡ flat_map escaped (take i text) ++ escaped (get_or text i d)
one_more text i d l =
    ap (flat_map escaped) (take_more text i d l) ∙ joined (take i text) (get_or text i d ∷ []) ∙ ap (λ xs. flat_map escaped (take i text) ++ xs) (append-nil (escaped (get_or text i d)))

pub run_none : (text : List ℕ) (i : ℕ) → IsRun text i i
run_none text i =
    let none : i - i ≡ 0 = omega arith in
    record {
      from = omega arith;
      plain = sym (append-nil (flat_map escaped (take i text))) ∙ ap (λ n. flat_map escaped (take i text) ++ take n (drop i text)) (sym none);
    }

-- the run with one byte more
longer : (text : List ℕ) (start i : ℕ) → start ≤ i → i < length text → take (i + 1 - start) (drop start text) ≡ take (i - start) (drop start text) ++ get_or text i 0 ∷ []
longer text start i h l =
    let size : length (drop start text) ≡ length text - start = length-drop start text in
    let count : i + 1 - start ≡ i - start + 1 = omega (arith, h) in
    let place : start + (i - start) ≡ i = omega (arith, h) in
    ap (λ n. take n (drop start text)) count
    ∙ take_more (drop start text) (i - start) 0 (omega (arith, size, h, l))
    ∙ ap (λ b. take (i - start) (drop start text) ++ b ∷ []) (get_or-drop start text (i - start) 0 ∙ ap (λ n. get_or text n 0) place)

-- one byte more that stands for itself
pub run_more : (text : List ℕ) (start i : ℕ) → i < length text → IsRun text start i → escaped (get_or text i 0) ≡ get_or text i 0 ∷ [] → IsRun text start (i + 1)
run_more text start i l r e =
    record {
      from = omega (arith, r.from);
      plain = one_more text i 0 l ∙ ap (λ xs. flat_map escaped (take i text) ++ xs) e ∙ ap (λ xs. xs ++ get_or text i 0 ∷ []) r.plain
          ∙ append_assoc (flat_map escaped (take start text)) (take (i - start) (drop start text)) (get_or text i 0 ∷ [])
          ∙ ap (λ xs. flat_map escaped (take start text) ++ xs) (sym (longer text start i r.from l));
    }

-- what is written up to a place, with the run
run_out : (text old a b : List ℕ) (start i : ℕ) → IsRun text start i → a ≡ old ++ flat_map escaped (take start text)
    → b ≡ a ++ take (i - start) (drop start text) → b ≡ old ++ flat_map escaped (take i text)
run_out text old a b start i r e f =
    f ∙ ap (λ xs. xs ++ take (i - start) (drop start text)) e
    ∙ append_assoc old (flat_map escaped (take start text)) (take (i - start) (drop start text)) ∙ ap (λ xs. old ++ xs) (sym r.plain)

-- a byte that is escaped
pub run_ends : (text old a b c : List ℕ) (start i : ℕ) → i < length text → IsRun text start i → a ≡ old ++ flat_map escaped (take start text)
    → b ≡ a ++ take (i - start) (drop start text) → c ≡ b ++ escaped (get_or text i 0) → c ≡ old ++ flat_map escaped (take (i + 1) text)
run_ends text old a b c start i l r e f g =
    g ∙ ap (λ xs. xs ++ escaped (get_or text i 0)) (run_out text old a b start i r e f)
    ∙ append_assoc old (flat_map escaped (take i text)) (escaped (get_or text i 0)) ∙ ap (λ xs. old ++ xs) (sym (one_more text i 0 l))

-- the last run
pub run_last : (text old a b : List ℕ) (start n : ℕ) → n ≡ length text → IsRun text start n → a ≡ old ++ flat_map escaped (take start text)
    → b ≡ a ++ take (n - start) (drop start text) → b ≡ old ++ flat_map escaped text
run_last text old a b start n size r e f = run_out text old a b start n r e f ∙ ap (λ xs. old ++ flat_map escaped xs) (take_all n text (omega (arith, size)))

pub ruleset runs = (run_none, run_more, run_ends, run_last)
