-- Tests of tokens and of keys, and lists of keys one behind the other: where the wholes are alike, so are the parts.
use Rattle.std.proofs.Common.{◌≡◌, ◌&&◌, ℕ, Bool, true, false, List, [], ◌∷◌, ◌++◌, map, refl, sym, ◌∙◌, subst, append_assoc, arith}
use Rattle.std.specs.List.{AllByRecursion}
use Rattle.std.specs.declared.cmp.Ordering.{Ordering}
use Rattle.std.specs.declared.cmp.Ordering.TheVariants.{Less, Equal, Greater}
use Rattle.std.specs.Ordering.{eq_by_cmp, is_eq, nat_cmp, ordering_then}
use Rattle.std.specs.Cmp.Lexicographic.{lists_ties, slice_cmp}
use Rattle.std.proofs.lemmas.Map.Text.{is_eq-slice_cmp}
use Rattle.std.proofs.lemmas.Bool.Decides.{nat_tests}
use Rattle.std.specs.Prelude.{bytes_eq}
use lib.Pointwise.{pointwise}
use Rattle.pv_number.specs.NumberEquality.{number_cmp}
use Rattle.pv_equality.specs.Equality.{same_number}
use Rattle.pv_equality.proofs.Bools.{both, first, second}
use Rattle.pv_distinct.specs.declared.token.Token.{Token}
use Rattle.pv_distinct.specs.Tokens.{token_cmp, token_kind, token_number, token_first, token_second, contents_cmp}
use Rattle.pv_distinct.specs.Keys.{KeyTokens, key_cmp, joined}

abbrev pub alike : Token → Token → Bool
alike = eq_by_cmp token_cmp

abbrev pub alike_keys : KeyTokens → KeyTokens → Bool
alike_keys = pointwise alike

pub keys_compared : (k l : KeyTokens) → is_eq (key_cmp k l) ≡ alike_keys k l
keys_compared k l = sym (lists_ties token_cmp (λ x y. refl) k l)

then_told : (o p : Ordering) → is_eq (ordering_then o p) ≡ (is_eq o && is_eq p)
then_told Less p = refl
then_told Equal p = refl
then_told Greater p = refl

pub token_told : (t u : Token) → alike t u
    ≡ (is_eq (nat_cmp (token_kind t) (token_kind u)) && (same_number (token_number t) (token_number u) && (bytes_eq (token_first t) (token_first u) && bytes_eq (token_second t) (token_second u))))
unfolding token_cmp
token_told t u =
    then_told (nat_cmp (token_kind t) (token_kind u)) (contents_cmp t u)
    ∙ (λ i. is_eq (nat_cmp (token_kind t) (token_kind u)) && (
    then_told (number_cmp (token_number t) (token_number u)) (ordering_then (slice_cmp nat_cmp (token_first t) (token_first u)) (slice_cmp nat_cmp (token_second t) (token_second u)))
    ∙ (λ j. same_number (token_number t) (token_number u) && (
    then_told (slice_cmp nat_cmp (token_first t) (token_first u)) (slice_cmp nat_cmp (token_second t) (token_second u))
    ∙ (λ k. is_eq-slice_cmp (token_first t) (token_first u) k && is_eq-slice_cmp (token_second t) (token_second u) k)) j)) i)

same_nat : (m n : ℕ) → is_eq (nat_cmp m n) ≡ true → m ≡ n
same_nat m n e = grind (arith, nat_tests)

pub kinds_alike : (t u : Token) → alike t u ≡ true → token_kind t ≡ token_kind u
kinds_alike t u e = same_nat (token_kind t) (token_kind u) (first (is_eq (nat_cmp (token_kind t) (token_kind u))) _ (sym (token_told t u) ∙ e))

pub joins : (a b r s : KeyTokens) → alike_keys a b ≡ true → alike_keys r s ≡ true → alike_keys (a ++ r) (b ++ s) ≡ true
joins [] [] r s h g = g
joins [] (u ∷ b) r s h g = cc
joins (t ∷ a) [] r s h g = cc
joins (t ∷ a) (u ∷ b) r s h g = both (first (alike t u) (alike_keys a b) h) (joins a b r s (second (alike t u) (alike_keys a b) h) g)

pub all_join : (ks ls : List KeyTokens) → pointwise alike_keys ks ls ≡ true → alike_keys (joined ks) (joined ls) ≡ true
all_join [] [] h = refl
all_join [] (l ∷ ls) h = cc
all_join (k ∷ ks) [] h = cc
all_join (k ∷ ks) (l ∷ ls) h =
    joins k l (joined ks) (joined ls) (first (alike_keys k l) (pointwise alike_keys ks ls) h) (all_join ks ls (second (alike_keys k l) (pointwise alike_keys ks ls) h))

-- a key begins with a kind that p holds of, and what stands behind a list of such keys does not
abbrev pub Begins : (ℕ → Bool) → KeyTokens → Type 0
Begins p [] = ⊥
Begins p (t ∷ ts) = p (token_kind t) ≡ true

abbrev pub Ends : (ℕ → Bool) → KeyTokens → Type 0
Ends p [] = Unit {0}
Ends p (t ∷ ts) = p (token_kind t) ≡ false

module _ (p : ℕ → Bool) where
  clash : (r k s : KeyTokens) → Ends p r → Begins p k → alike_keys r (k ++ s) ≡ true → ⊥
  clash r [] s e b h = absurd b
  clash [] (u ∷ k) s e b h = cc
  clash (t ∷ r) (u ∷ k) s e b h =
      let q : token_kind t ≡ token_kind u = kinds_alike t u (first (alike t u) (alike_keys r (k ++ s)) h) in
      let c : p (token_kind u) ≡ false = subst (λ n. p n ≡ false) q e in
      cc

  clash_back : (r k s : KeyTokens) → Ends p r → Begins p k → alike_keys (k ++ s) r ≡ true → ⊥
  clash_back r [] s e b h = absurd b
  clash_back [] (u ∷ k) s e b h = cc
  clash_back (t ∷ r) (u ∷ k) s e b h =
      let q : token_kind u ≡ token_kind t = kinds_alike u t (first (alike u t) (alike_keys (k ++ s) r) h) in
      let c : p (token_kind u) ≡ false = subst (λ n. p n ≡ false) (sym q) e in
      cc

-- items with keys: where a key is followed by anything, alike wholes have alike items and alike rests
module _ {X : Type 0} (code : X → KeyTokens) (like : X → X → Bool) (Q : X → Type 0) (p : ℕ → Bool) (begins : (x : X) → Q x → Begins p (code x)) where
  abbrev pub Cut : X → Type 0
  Cut x = (y : X) → Q y → (r s : KeyTokens) → alike_keys (code x ++ r) (code y ++ s) ≡ true → (like x y ≡ true) × (alike_keys r s ≡ true)

  abbrev codes : List X → KeyTokens
  codes xs = joined (map code xs)

  pub cut_list : (xs ys : List X) → AllByRecursion Q xs → AllByRecursion Cut xs → AllByRecursion Q ys → (r s : KeyTokens) → Ends p r → Ends p s
      → alike_keys (codes xs ++ r) (codes ys ++ s) ≡ true → (pointwise like xs ys ≡ true) × (alike_keys r s ≡ true)
  cut_list [] [] q c g r s e f h = (refl, h)
  cut_list [] (y ∷ ys) q c g r s e f h = absurd (clash p r (code y) (codes ys ++ s) e (begins y g.0) (subst (λ k. alike_keys r k ≡ true) (append_assoc (code y) (codes ys) s) h))
  cut_list (x ∷ xs) [] q c g r s e f h = absurd (clash_back p s (code x) (codes xs ++ r) f (begins x q.0) (subst (λ k. alike_keys k s ≡ true) (append_assoc (code x) (codes xs) r) h))
  cut_list (x ∷ xs) (y ∷ ys) q c g r s e f h =
      let h1 : alike_keys (code x ++ (codes xs ++ r)) (code y ++ (codes ys ++ s)) ≡ true
      = sym (λ i. alike_keys (append_assoc (code x) (codes xs) r i) (append_assoc (code y) (codes ys) s i)) ∙ h in
      let k = c.0 y g.0 (codes xs ++ r) (codes ys ++ s) h1 in
      let l = cut_list xs ys q.1 c.1 g.1 r s e f k.1 in
      (both k.0 l.0, l.1)
