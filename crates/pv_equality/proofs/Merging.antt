-- What is kept of entries: entry by entry, and all where no two have the same key.
use Rattle.std.proofs.Common.{◌≡◌, Bool, true, false, ◌||◌, cond, List, [], ◌∷◌, ◌++◌, map, refl, sym, ap, ◌∙◌}
use Rattle.std.specs.List.{list_any}
use Rattle.std.proofs.lemmas.List.{map-append}
use Rattle.pv_tree.specs.declared.Value.{Value}
use Rattle.pv_tree.specs.declared.Value.TheVariants as value
use Rattle.pv_equality.specs.Equality.{same}
use Rattle.pv_equality.specs.Merging.{AreDistinct, first_of_each, last_value, merged_entries}
use Rattle.pv_equality.specs.Steps.{put_item, put_entry}
use Rattle.pv_equality.proofs.Anys.{neither_left, neither_right, not_true}
use Rattle.pv_equality.proofs.Keeping.{any_same, first_none, first_more, first_distinct, distinct_stay}
use Rattle.pv_equality.proofs.Levels.{same_refl, same_symm, same_trans}

abbrev pub keys_of : List (Value × Value) → List Value
keys_of es = map (λ e. e.0) es

-- the last value, when one more entry came
last_more : (k d : Value) (es : List (Value × Value)) (e : Value × Value) → last_value k d (es ++ e ∷ []) ≡ cond (same k e.0) e.1 (last_value k d es)
last_more k d [] e = refl
last_more k d (x ∷ es) e = last_more k (cond (same k x.0) x.1 d) es e

-- keys with their values
module _ (f : Value → Value) (k v : Value) where
  abbrev with_values : List Value → List (Value × Value)
  with_values ks = map (λ x. (x, f x)) ks

  abbrev with_new : List Value → List (Value × Value)
  with_new ks = map (λ x. (x, cond (same x k) v (f x))) ks

  unlike : (x y : Value) → same x k ≡ true → same x y ≡ false → same y k ≡ false
  unlike x y e h = not_true (same y k) (same x y) (λ g. same_trans x k y e (same_symm y k g)) h

  others : (x : Value) (ks : List Value) → same x k ≡ true → list_any (same x) ks ≡ false → with_values ks ≡ with_new ks
  others x [] e h = refl
  others x (y ∷ ks) e h =
      λ i. (y, cond (sym (unlike x y e (neither_left (same x y) (list_any (same x) ks) h)) i) v (f y)) ∷ others x ks e (neither_right (same x y) (list_any (same x) ks) h) i

  put_at : (b : Bool) (x : Value) (ks : List Value) → same x k ≡ b → list_any (same x) ks ≡ false → put_entry (with_values ks) k v ≡ with_new (put_item ks k)
      → cond b ((x, v) ∷ with_values ks) ((x, f x) ∷ put_entry (with_values ks) k v) ≡ with_new (cond (b || any_same ks k) (x ∷ ks) (x ∷ (ks ++ k ∷ [])))
  put_at true x ks e d h = λ i. (x, cond (sym e i) v (f x)) ∷ others x ks e d i
  put_at false x ks e d h = (λ i. (x, cond (sym e i) v (f x)) ∷ h i) ∙ behind (any_same ks k)
    where
      behind : (c : Bool) → with_new (x ∷ cond c ks (ks ++ k ∷ [])) ≡ with_new (cond c (x ∷ ks) (x ∷ (ks ++ k ∷ [])))
      behind true = refl
      behind false = refl

  put_values : (ks : List Value) → AreDistinct ks → put_entry (with_values ks) k v ≡ with_new (put_item ks k)
  put_values [] d = λ i. (k, cond (sym (same_refl k) i) v (f k)) ∷ []
  put_values (x ∷ ks) d = put_at (same x k) x ks refl d.0 (put_values ks d.1)

pub merged_none : merged_entries [] ≡ []
unfolding merged_entries
merged_none = ap (map (λ k. (k, value.None))) first_none

pub merged_more : (es : List (Value × Value)) (e : Value × Value) → merged_entries (es ++ e ∷ []) ≡ put_entry (merged_entries es) e.0 e.1
unfolding merged_entries
merged_more es e =
    (λ i. map (λ k. (k, last_more k value.None es e i)) (first_of_each (map-append (λ x. x.0) es (e ∷ []) i)))
    ∙ ap (map (λ k. (k, cond (same k e.0) e.1 (last_value k value.None es)))) (first_more (keys_of es) e.0)
    ∙ sym (put_values (λ k. last_value k value.None es) e.0 e.1 (first_of_each (keys_of es)) (first_distinct (keys_of es)))

keys_with : (f : Value → Value) (ks : List Value) → keys_of (map (λ x. (x, f x)) ks) ≡ ks
keys_with f [] = refl
keys_with f (k ∷ ks) = ap (λ xs. k ∷ xs) (keys_with f ks)

pub keys_kept : (es : List (Value × Value)) → keys_of (merged_entries es) ≡ first_of_each (keys_of es)
unfolding merged_entries
keys_kept es = keys_with (λ k. last_value k value.None es) (first_of_each (keys_of es))

-- entries no two of which have the same key are kept as they are
last_none : (k v : Value) (es : List (Value × Value)) → list_any (same k) (keys_of es) ≡ false → last_value k v es ≡ v
last_none k v [] h = refl
last_none k v (e ∷ es) h =
    (λ i. last_value k (cond (neither_left (same k e.0) (list_any (same k) (keys_of es)) h i) e.1 v) es)
    ∙ last_none k v es (neither_right (same k e.0) (list_any (same k) (keys_of es)) h)

own_values : (d : Value → Value) (es : List (Value × Value)) → AreDistinct (keys_of es) → map (λ k. (k, last_value k (d k) es)) (keys_of es) ≡ es
own_values d [] a = refl
own_values d (e ∷ es) a =
    λ i. (e.0, ((λ j. last_value e.0 (cond (same_refl e.0 j) e.1 (d e.0)) es) ∙ last_none e.0 e.1 es a.0) i) ∷ own_values (λ k. cond (same k e.0) e.1 (d k)) es a.1 i

pub entries_stay : (es : List (Value × Value)) → AreDistinct (keys_of es) → merged_entries es ≡ es
unfolding merged_entries
entries_stay es a =
    ap (map (λ k. (k, last_value k value.None es))) (distinct_stay (keys_of es) a) ∙ own_values (λ _. value.None) es a

-- the keys of the entries when one more came
keys_at : (b c : Bool) (k v : Value) (e : Value × Value) (es fs : List (Value × Value)) → keys_of fs ≡ cond c (keys_of es) (keys_of es ++ k ∷ [])
    → keys_of (cond b ((e.0, v) ∷ es) (e ∷ fs)) ≡ cond (b || c) (e.0 ∷ keys_of es) (e.0 ∷ (keys_of es ++ k ∷ []))
keys_at true c k v e es fs h = refl
keys_at false true k v e es fs h = ap (λ ks. e.0 ∷ ks) h
keys_at false false k v e es fs h = ap (λ ks. e.0 ∷ ks) h

pub keys_more : (es : List (Value × Value)) (k v : Value) → keys_of (put_entry es k v) ≡ put_item (keys_of es) k
keys_more [] k v = refl
keys_more (e ∷ es) k v = keys_at (same e.0 k) (any_same (keys_of es) k) k v e es (put_entry es k v) (keys_more es k v)
