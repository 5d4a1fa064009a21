-- What an index finds, and what it has seen when one more value came.
use Rattle.std.proofs.Common.{◌≡◌, ℕ, ◌+◌, Bool, true, false, cond, ◌||◌, List, [], ◌∷◌, ◌++◌, length, length-append, refl, sym, ap, ◌∙◌, subst, arith}
use Rattle.std.specs.Prelude.{Option, None, Some, is_some}
use Rattle.std.specs.List.{position_from, list_any}
use Rattle.std.specs.declared.cmp.Ordering.TheVariants.{Equal}
use Rattle.std.specs.Ordering.{is_eq}
use Rattle.std.specs.BTreeMap.{get, btree_map_len, Updates}
use Rattle.std.proofs.lemmas.Cmp.{eq_by_cmp_equiv}
use Rattle.pv_tree.specs.declared.Value.{Value}
use Rattle.pv_equality.specs.Equality.{same}
use Rattle.pv_equality.specs.Steps.{put_item}
use Rattle.pv_equality.proofs.Bools.{same_test}
use Rattle.pv_equality.proofs.Levels.{same_symm}
use Rattle.pv_distinct.specs.Keys.{KeyTokens, key, key_cmp}
use Rattle.pv_distinct.specs.TokenOrder.{keys_total}
use Rattle.pv_distinct.specs.Sightings.{IsSeen, place_at, place_of}
use Rattle.pv_distinct.specs.declared.seen.Seen.{Seen}
use Rattle.pv_distinct.proofs.Ordering.{equal_told}
use Rattle.pv_distinct.proofs.Telling.{keys_tell}

abbrev or_else : Option ℕ → Option ℕ → Option ℕ
or_else None o = o
or_else (Some i) o = Some i

or_none : (o : Option ℕ) → or_else o None ≡ o
or_none None = refl
or_none (Some i) = refl

module _ {X : Type 0} (t : X → Bool) where
  one_more_at : (b : Bool) (i : ℕ) (y : X) (xs : List X) → position_from t (i + 1) (xs ++ y ∷ []) ≡ or_else (position_from t (i + 1) xs) (cond (t y) (Some ((i + 1) + length xs)) None)
      → cond b (Some i) (position_from t (i + 1) (xs ++ y ∷ [])) ≡ or_else (cond b (Some i) (position_from t (i + 1) xs)) (cond (t y) (Some (i + length xs + 1)) None)
  one_more_at true i y xs h = refl
  one_more_at false i y xs h = h ∙ (λ j. or_else (position_from t (i + 1) xs) (cond (t y) (Some (moved j)) None))
    where
      moved : (i + 1) + length xs ≡ i + length xs + 1
      moved = omega arith

  one_more : (i : ℕ) (xs : List X) (y : X) → position_from t i (xs ++ y ∷ []) ≡ or_else (position_from t i xs) (cond (t y) (Some (i + length xs)) None)
  one_more i [] y = λ j. cond (t y) (Some (plain j)) None
    where
      plain : i ≡ i + 0
      plain = omega arith
  one_more i (x ∷ xs) y =
      one_more_at (t x) i y xs (one_more (i + 1) xs y) ∙ (λ j. or_else (cond (t x) (Some i) (position_from t (i + 1) xs)) (cond (t y) (Some (counted j)) None))
    where
      counted : i + length xs + 1 ≡ i + length (x ∷ xs)
      counted = omega arith

  some_at : (b : Bool) (i j : ℕ) (xs : List X) → (position_from t (i + 1) xs ≡ Some j → list_any t xs ≡ true)
      → cond b (Some i) (position_from t (i + 1) xs) ≡ Some j → (b || list_any t xs) ≡ true
  some_at true i j xs f h = refl
  some_at false i j xs f h = f h

  pub some_any : (i j : ℕ) (xs : List X) → position_from t i xs ≡ Some j → list_any t xs ≡ true
  some_any i j [] h = cc
  some_any i j (x ∷ xs) h = some_at (t x) i j xs (some_any (i + 1) j xs) h

  none_at : (b : Bool) (i : ℕ) (xs : List X) → (position_from t (i + 1) xs ≡ None → list_any t xs ≡ false)
      → cond b (Some i) (position_from t (i + 1) xs) ≡ None → (b || list_any t xs) ≡ false
  none_at true i xs f h = cc
  none_at false i xs f h = f h

  pub none_any : (i : ℕ) (xs : List X) → position_from t i xs ≡ None → list_any t xs ≡ false
  none_any i [] h = refl
  none_any i (x ∷ xs) h = none_at (t x) i xs (none_any (i + 1) xs) h

turned : (v w : Value) → is_eq (key_cmp (key v) (key w)) ≡ same w v
turned v w = keys_tell v w ∙ same_test (same v w) (same w v) (same_symm v w) (same_symm w v)

module _ (s : Seen) (kept : List Value) (v : Value) (h : IsSeen s kept) where
  position_told : get key_cmp s.places (key v) ≡ position_from (λ w. same w v) 0 kept
  position_told = h.found (key v) ∙ (λ i. position_from (λ w. turned v w i) 0 kept)

  pub place_told : (r : Option ℕ) → r ≡ get key_cmp s.places (key v) → place_at r ≡ place_of kept v
  place_told r e = ap place_at (e ∙ position_told)

  pub kept_old : (i : ℕ) → get key_cmp s.places (key v) ≡ Some i → IsSeen s (put_item kept v)
  kept_old i e = subst (λ b. IsSeen s (cond b kept (kept ++ v ∷ []))) (sym (some_any (λ w. same w v) 0 i kept (sym position_told ∙ e))) h

  module _ (e : get key_cmp s.places (key v) ≡ None) (n : Seen) (u : Updates key_cmp s.places n.places (key v) (Some (btree_map_len s.places))) where
    alike_at : (k : KeyTokens) → key_cmp (key v) k ≡ Equal → get key_cmp s.places k ≡ None
    alike_at k q = h.found k ∙ (λ i. position_from (λ w. is_eq (sym (keys_total.congr (key v) k (key w) q) i)) 0 kept) ∙ sym (h.found (key v)) ∙ e

    found_at : (b : Bool) (k : KeyTokens) → is_eq (key_cmp (key v) k) ≡ b
        → cond b (Some (btree_map_len s.places)) (get key_cmp s.places k) ≡ or_else (position_from (λ w. is_eq (key_cmp k (key w))) 0 kept) (cond b (Some (0 + length kept)) None)
    found_at true k q =
        (λ i. Some (last i))
        ∙ (λ i. or_else (sym (sym (h.found k) ∙ alike_at k (equal_told (key_cmp (key v) k) q)) i) (Some (0 + length kept)))
      where
        last : btree_map_len s.places ≡ 0 + length kept
        last = omega (arith, h.counted)
    found_at false k q = h.found k ∙ sym (or_none (position_from (λ w. is_eq (key_cmp k (key w))) 0 kept))

    found_new : (k : KeyTokens) → get key_cmp n.places k ≡ position_from (λ w. is_eq (key_cmp k (key w))) 0 (kept ++ v ∷ [])
    found_new k =
        u.0 k ∙ found_at (is_eq (key_cmp (key v) k)) k refl
        ∙ sym (one_more (λ w. is_eq (key_cmp k (key w))) 0 kept v
        ∙ (λ i. or_else (position_from (λ w. is_eq (key_cmp k (key w))) 0 kept) (cond ((eq_by_cmp_equiv keys_total).symm k (key v) i) (Some (0 + length kept)) None)))

    pub kept_new : btree_map_len n.places ≡ btree_map_len s.places + 1 → IsSeen n (put_item kept v)
    kept_new c =
        subst (λ b. IsSeen n (cond b kept (kept ++ v ∷ []))) (sym (none_any (λ w. same w v) 0 kept (sym position_told ∙ e)))
        (record { found = found_new; counted = c ∙ (λ i. h.counted i + 1) ∙ sym (length_last kept) })
      where
        length_last : (xs : List Value) → length (xs ++ v ∷ []) ≡ length xs + 1
        length_last xs = simp length-append refl

  -- the same, as an insertion says it
  pub kept_added : (n : Seen) (k : KeyTokens) (m : ℕ) (o : Option ℕ) → get key_cmp s.places (key v) ≡ None → k ≡ key v → m ≡ btree_map_len s.places
      → Updates key_cmp s.places n.places k (Some m) → o ≡ get key_cmp s.places k → btree_map_len n.places ≡ btree_map_len s.places + cond (is_some o) 0 1 → IsSeen n (put_item kept v)
  kept_added n k m o e p q u f c =
      let u1 : Updates key_cmp s.places n.places (key v) (Some m) = subst (λ l. Updates key_cmp s.places n.places l (Some m)) p u in
      let u2 : Updates key_cmp s.places n.places (key v) (Some (btree_map_len s.places)) = subst (λ l. Updates key_cmp s.places n.places (key v) (Some l)) q u1 in
      let g : o ≡ None = f ∙ (λ i. get key_cmp s.places (p i)) ∙ e in
      kept_new e n u2 (c ∙ (λ i. btree_map_len s.places + cond (is_some (g i)) 0 1))
