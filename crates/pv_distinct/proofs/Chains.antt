-- Values that ascend, and so are distinct.
use Rattle.std.proofs.Common.{◌≡◌, ◌||◌, ◌⊎◌, inl, inr, ◌-◌, ◌≤◌, ℕ, zero, suc, ◌+◌, ◌<◌, true, false, List, [], ◌∷◌, length, get_or, refl, sym, ap, ◌∙◌, arith}
use Rattle.std.specs.Prelude.{map}
use Rattle.std.proofs.lemmas.List.{get_or-map, length-map}
use Rattle.std.specs.List.{AllByRecursion, list_any}
use Rattle.std.specs.declared.cmp.Ordering.{Ordering}
use Rattle.std.specs.declared.cmp.Ordering.TheVariants.{Less, Equal, Greater}
use Rattle.std.specs.Ordering.{int_cmp, is_eq, is_lt}
use Rattle.pv_tree.specs.declared.Value.{Value}
use Rattle.pv_tree.specs.declared.Value.TheOpen.{Value-F}
use Rattle.pv_tree.specs.declared.Value.TheViews.{roll-Value, out-Value, roll-out-Value}
use Rattle.pv_equality.specs.Equality.{same}
use Rattle.pv_equality.specs.Merging.{AreDistinct}
use Rattle.pv_distinct.specs.Ascending.{ascend_at}
use Rattle.pv_distinct.specs.declared.token.Token.TheVariants as token
use Rattle.pv_distinct.specs.Tokens.{bytes_cmp, token_cmp}
use Rattle.pv_distinct.specs.Keys.{key, key_cmp}
use Rattle.pv_distinct.specs.TokenOrder.{keys_total}
use Rattle.pv_distinct.proofs.Alone.{then_equal, int_tokens, text_tokens}
use Rattle.pv_distinct.proofs.Levels.{key_level}
use Rattle.pv_distinct.proofs.Telling.{keys_tell}

-- the key of the first value is below that of the second
abbrev pub Below : Value → Value → Type 0
Below v w = key_cmp (key v) (key w) ≡ Less

less_told : (o : Ordering) → is_lt o ≡ true → o ≡ Less
less_told Less e = refl
less_told Equal e = cc
less_told Greater e = cc

levels_below : (x y : Value-F Value) → ascend_at x y ≡ true → Below (roll-Value x) (roll-Value y)
levels_below (Value-F.Int m) (Value-F.Int n) h =
    (λ i. key_cmp (key_level (Value-F.Int m) i) (key_level (Value-F.Int n) i))
    ∙ then_equal (token_cmp (token.Int m) (token.Int n)) ∙ int_tokens m n ∙ less_told (int_cmp m n) h
levels_below (Value-F.Str t) (Value-F.Str u) h =
    (λ i. key_cmp (key_level (Value-F.Str t) i) (key_level (Value-F.Str u) i))
    ∙ then_equal (token_cmp (token.Str t) (token.Str u)) ∙ text_tokens t u ∙ less_told (bytes_cmp t u) h
levels_below x y h = cc

pub below : (v w : Value) → ascend_at (out-Value v) (out-Value w) ≡ true → Below v w
below v w h = (λ i. key_cmp (key (sym (roll-out-Value v) i)) (key (sym (roll-out-Value w) i))) ∙ levels_below (out-Value v) (out-Value w) h

-- each is below the one behind it
abbrev Chain : Value → List Value → Type 0
Chain v [] = Unit {0}
Chain v (w ∷ ws) = Below v w × Chain w ws

all_above : (u v : Value) (ws : List Value) → Below u v → Chain v ws → AllByRecursion (Below u) ws
all_above u v [] b c = tt
all_above u v (w ∷ ws) b c =
    let d : Below u w = keys_total.trans (key u) (key v) (key w) b c.0 in (d, all_above u w ws d c.1)

none_same : (v : Value) (ws : List Value) → AllByRecursion (Below v) ws → list_any (same v) ws ≡ false
none_same v [] a = refl
none_same v (w ∷ ws) a = (λ i. (sym (keys_tell v w) ∙ ap is_eq a.0) i || list_any (same v) ws) ∙ none_same v ws a.1

first_below : (v : Value) (ws : List Value) → Chain v ws → AllByRecursion (Below v) ws
first_below v [] c = tt
first_below v (w ∷ ws) c = (c.0, all_above v w ws c.0 c.1)

distinct_chain : (v : Value) (ws : List Value) → Chain v ws → AreDistinct (v ∷ ws)
distinct_chain v [] c = (refl, tt)
distinct_chain v (w ∷ ws) c = (none_same v (w ∷ ws) (first_below v (w ∷ ws) c), distinct_chain w ws c.1)

-- as far as a place, each is below the one behind it
abbrev pub AscendTo : List Value → ℕ → Type 0
AscendTo vs i = (j : ℕ) → suc j < i → (d : Value) → Below (get_or vs j d) (get_or vs (suc j) d)

chained : (v : Value) (ws : List Value) → AscendTo (v ∷ ws) (length (v ∷ ws)) → Chain v ws
chained v [] a = tt
chained v (w ∷ ws) a = (a 0 (omega arith) v, chained w ws (λ j l d. a (suc j) (omega (arith, l)) d))

distinct_whole : (vs : List Value) → AscendTo vs (length vs) → AreDistinct vs
distinct_whole [] a = tt
distinct_whole (v ∷ ws) a = distinct_chain v ws (chained v ws a)

pub distinct_so : (vs : List Value) (i : ℕ) → length vs ≤ i → AscendTo vs i → AreDistinct vs
distinct_so vs i l a = distinct_whole vs (λ j m d. a j (omega (arith, l, m)) d)

pub none_yet : (vs : List Value) → AscendTo vs 1
none_yet vs j l d = absurd (omega (arith, l))

any_default : {X : Type 0} → (xs : List X) (i : ℕ) (d e : X) → i < length xs → get_or xs i d ≡ get_or xs i e
any_default [] i d e l = absurd (omega (arith, l))
any_default (x ∷ xs) zero d e l = refl
any_default (x ∷ xs) (suc i) d e l = any_default xs i d e (omega (arith, l))

nearer : (m n : ℕ) → m < n + 1 → (m < n) ⊎ (m ≡ n)
nearer zero zero l = inr refl
nearer zero (suc n) l = inl (omega arith)
nearer (suc m) zero l = absurd (omega (arith, l))
nearer (suc m) (suc n) l = elim (nearer m n (omega (arith, l))) [
  | inl k ↦ inl (omega (arith, k))
  | inr e ↦ inr (ap suc e)
]

-- one place further, where the last two ascend
pub one_further : (vs : List Value) (i : ℕ) (v w : Value) → 0 < i → i < length vs → v ≡ get_or vs (i - 1) v → w ≡ get_or vs i w → ascend_at (out-Value v) (out-Value w) ≡ true
    → AscendTo vs i → AscendTo vs (i + 1)
one_further vs i v w some within p q h a j l d = elim (nearer (suc j) i l) [
  | inl m ↦ a j m d
  | inr e ↦
      let f : get_or vs j d ≡ v = any_default vs j d v (omega (arith, e, within)) ∙ ap (λ k. get_or vs k v) (omega (arith, e)) ∙ sym p in
      let g : get_or vs (suc j) d ≡ w = any_default vs (suc j) d w (omega (arith, e, within)) ∙ ap (λ k. get_or vs k w) e ∙ sym q in
      (λ k. key_cmp (key (f k)) (key (g k))) ∙ below v w h
]

-- the same of the keys of entries
abbrev pub keys : List (Value × Value) → List Value
keys es = map (λ e. e.0) es

key_there : (es : List (Value × Value)) (i : ℕ) (e : Value × Value) → i < length es → (get_or es i e).0 ≡ get_or (keys es) i (get_or es i e).0
key_there es i e l = sym (get_or-map (λ x. x.0) es i e (get_or es i e).0 l)

pub one_key_further : (es : List (Value × Value)) (i : ℕ) (d e : Value × Value) → 0 < i → i < length es
    → ascend_at (out-Value (get_or es (i - 1) d).0) (out-Value (get_or es i e).0) ≡ true → AscendTo (keys es) i → AscendTo (keys es) (i + 1)
one_key_further es i d e some within h a =
    one_further (keys es) i (get_or es (i - 1) d).0 (get_or es i e).0 some (omega (arith, within, length-map es (λ x. x.0)))
    (key_there es (i - 1) d (omega (arith, within, some))) (key_there es i e within) h a

pub distinct_keys : (es : List (Value × Value)) (i : ℕ) → length es ≤ i → AscendTo (keys es) i → AreDistinct (keys es)
distinct_keys es i l a = distinct_so (keys es) i (omega (arith, l, length-map es (λ x. x.0))) a
