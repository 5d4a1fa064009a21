-- Members put among others, at the places that an index has for their names.
use Rattle.std.proofs.Common.{◌≡◌, ℕ, suc, ◌+◌, ◌-◌, ◌<◌, ◌≤◌, Bool, true, false, cond, List, [], ◌∷◌, ◌++◌, length, get_or, take, refl, sym, ap, ◌∙◌, subst, arith}
use Rattle.std.specs.Prelude.{Option, None, Some, bytes_eq}
use Rattle.std.specs.List.{position_from}
use Rattle.std.specs.BTreeMap.{BTreeMap, get, Updates}
use Rattle.std.specs.Cmp.Lexicographic.{texts_ties, bytes_decides}
use Rattle.std.proofs.Math.ListN.{set}
use Rattle.std.proofs.lemmas.List.{take_more}
use Rattle.pv_tree.specs.Merging.{put, put_all, merged, place_of, name_cmp, IsIndex}

abbrev or_else : Option ℕ → Option ℕ → Option ℕ
or_else None o = o
or_else (Some i) o = Some i

-- the name that is asked for is the new one, or another one
added_by : (b : Bool) (q k : List ℕ) (last : ℕ) (found new : Option ℕ) → (b ≡ true → q ≡ k) → (q ≡ k → found ≡ None)
    → new ≡ cond b (Some last) found → new ≡ or_else found (cond b (Some last) None)
added_by true q k last found new same absent e = e ∙ ap (λ o. or_else o (Some last)) (sym (absent (same refl)))
added_by false q k last None new same absent e = e
added_by false q k last (Some i) new same absent e = e

turned : (k q : List ℕ) → bytes_eq k q ≡ bytes_eq q k
turned k q = by (bytes_eq k q) (bytes_eq q k) refl refl
  where
    by : (b c : Bool) → bytes_eq k q ≡ b → bytes_eq q k ≡ c → b ≡ c
    by true true e f = refl
    by false false e f = refl
    by true false e f = sym ((bytes_decides q k).1 (sym ((bytes_decides k q).0 e))) ∙ f
    by false true e f = sym e ∙ (bytes_decides k q).1 (sym ((bytes_decides q k).0 f))

module _ {V : Type 0} where
  -- the place of the first of this name, counted from `i`
  abbrev place_from : ℕ → List (List ℕ × V) → List ℕ → Option ℕ
  place_from i ms k = position_from (λ m. bytes_eq k m.0) i ms

  -- a name that is not there
  new_by : (b : Bool) (i : ℕ) (m : List ℕ × V) (ms : List (List ℕ × V)) (k : List ℕ) (v : V)
      → (place_from (i + 1) ms k ≡ None → put ms k v ≡ ms ++ (k, v) ∷ [])
      → cond b (Some i) (place_from (i + 1) ms k) ≡ None → cond b ((m.0, v) ∷ ms) (m ∷ put ms k v) ≡ m ∷ (ms ++ (k, v) ∷ [])
  new_by true i m ms k v f h = cc
  new_by false i m ms k v f h = ap (λ xs. m ∷ xs) (f h)

  new_from : (i : ℕ) (ms : List (List ℕ × V)) (k : List ℕ) (v : V) → place_from i ms k ≡ None → put ms k v ≡ ms ++ (k, v) ∷ []
  new_from i [] k v h = refl
  new_from i (m ∷ ms) k v h = new_by (bytes_eq k m.0) i m ms k v (new_from (i + 1) ms k v) h

  pub put_new : (ms : List (List ℕ × V)) (k : List ℕ) (v : V) → place_of ms k ≡ None → put ms k v ≡ ms ++ (k, v) ∷ []
  put_new ms k v h = new_from 0 ms k v h

  -- a name that is there, at the place `n` of a list whose first member is at the place `i`
  record IsPutAt (ms : List (List ℕ × V)) (k : List ℕ) (v : V) (i n : ℕ) : Type 0 where
    from : i ≤ n
    below : n < i + length ms
    made : (d : List ℕ × V) → put ms k v ≡ set ms (n - i) ((get_or ms (n - i) d).0, v)
    placed : (q : List ℕ) → place_from i (put ms k v) q ≡ place_from i ms q

  old_by : (b : Bool) (i n : ℕ) (m : List ℕ × V) (ms : List (List ℕ × V)) (k : List ℕ) (v : V) → bytes_eq k m.0 ≡ b
      → (place_from (i + 1) ms k ≡ Some n → IsPutAt ms k v (i + 1) n)
      → cond b (Some i) (place_from (i + 1) ms k) ≡ Some n → IsPutAt (m ∷ ms) k v i n
  old_by true i n m ms k v s f h =
      let at : i ≡ n = cc in
      let none : 0 ≡ n - i = omega arith in
      let here : put (m ∷ ms) k v ≡ (m.0, v) ∷ ms = ap (λ b. cond b ((m.0, v) ∷ ms) (m ∷ put ms k v)) s in
      record {
        from = omega arith;
        below = omega arith;
        made = λ d. here ∙ ap (λ j. set (m ∷ ms) j ((get_or (m ∷ ms) j d).0, v)) none;
        placed = λ q. ap (λ xs. place_from i xs q) here;
      }
  old_by false i n m ms k v s f h =
      let r : IsPutAt ms k v (i + 1) n = f h in
      let least : i + 1 ≤ n = r.from in
      let most : n < i + 1 + length ms = r.below in
      let next : suc (n - (i + 1)) ≡ n - i = omega arith in
      let here : put (m ∷ ms) k v ≡ m ∷ put ms k v = ap (λ b. cond b ((m.0, v) ∷ ms) (m ∷ put ms k v)) s in
      record {
        from = omega arith;
        below = omega arith;
        made = λ d. here ∙ ap (λ xs. m ∷ xs) (r.made d) ∙ ap (λ j. set (m ∷ ms) j ((get_or (m ∷ ms) j d).0, v)) next;
        placed = λ q. ap (λ xs. place_from i xs q) here ∙ ap (λ o. cond (bytes_eq q m.0) (Some i) o) (r.placed q);
      }

  old_from : (i n : ℕ) (ms : List (List ℕ × V)) (k : List ℕ) (v : V) → place_from i ms k ≡ Some n → IsPutAt ms k v i n
  old_from i n [] k v h = cc
  old_from i n (m ∷ ms) k v h = old_by (bytes_eq k m.0) i n m ms k v refl (old_from (i + 1) n ms k v) h

  pub place_below : (ms : List (List ℕ × V)) (k : List ℕ) (v : V) (n : ℕ) → place_of ms k ≡ Some n → n < length ms
  place_below ms k v n h = let r : n < 0 + length ms = (old_from 0 n ms k v h).below in omega arith

  pub put_old : (ms : List (List ℕ × V)) (k : List ℕ) (v : V) (n : ℕ) (d : List ℕ × V) → place_of ms k ≡ Some n
      → put ms k v ≡ set ms n ((get_or ms n d).0, v)
  put_old ms k v n d h =
      let whole : n - 0 ≡ n = omega arith in
      (old_from 0 n ms k v h).made d ∙ ap (λ j. set ms j ((get_or ms j d).0, v)) whole

  pub index_kept : (places : BTreeMap (List ℕ) ℕ) (ms : List (List ℕ × V)) (k : List ℕ) (v : V) (n : ℕ) → IsIndex places ms → place_of ms k ≡ Some n
      → IsIndex places (put ms k v)
  index_kept places ms k v n index h = λ q. index q ∙ sym ((old_from 0 n ms k v h).placed q)

  -- one member more
  one_more_by : (b : Bool) (i : ℕ) (q : List ℕ) (y : List ℕ × V) (ms : List (List ℕ × V)) (last : ℕ)
      → place_from (i + 1) (ms ++ y ∷ []) q ≡ or_else (place_from (i + 1) ms q) (cond (bytes_eq q y.0) (Some last) None)
      → cond b (Some i) (place_from (i + 1) (ms ++ y ∷ []) q) ≡ or_else (cond b (Some i) (place_from (i + 1) ms q)) (cond (bytes_eq q y.0) (Some last) None)
  one_more_by true i q y ms last h = refl
  one_more_by false i q y ms last h = h

  one_more : (i last : ℕ) (q : List ℕ) (y : List ℕ × V) (ms : List (List ℕ × V)) → last ≡ i + length ms
      → place_from i (ms ++ y ∷ []) q ≡ or_else (place_from i ms q) (cond (bytes_eq q y.0) (Some last) None)
  one_more i last q y [] e = let same : i ≡ last = omega (arith, e) in ap (λ j. cond (bytes_eq q y.0) (Some j) None) same
  one_more i last q y (m ∷ ms) e = one_more_by (bytes_eq q m.0) i q y ms last (one_more (i + 1) last q y ms (omega (arith, e)))

  index_added : (places more : BTreeMap (List ℕ) ℕ) (ms : List (List ℕ × V)) (k : List ℕ) (v : V) → IsIndex places ms → place_of ms k ≡ None
      → Updates name_cmp places more k (Some (length ms)) → IsIndex more (ms ++ (k, v) ∷ [])
  index_added places more ms k v index absent u = λ q.
      added_by (bytes_eq q k) q k (length ms) (place_of ms q) (get name_cmp more q) ((bytes_decides q k).0) (λ e. ap (place_of ms) e ∙ absent)
      (u.0 q ∙ ap (λ b. cond b (Some (length ms)) (get name_cmp places q)) (sym (texts_ties k q) ∙ turned k q) ∙ ap (λ o. cond (bytes_eq q k) (Some (length ms)) o) (index q))
      ∙ sym (one_more 0 (length ms) q (k, v) ms (omega arith))

  -- the same, as an insertion says it
  pub index_inserted : (places more : BTreeMap (List ℕ) ℕ) (ms : List (List ℕ × V)) (k l : List ℕ) (v : V) (n : ℕ) → IsIndex places ms → place_of ms k ≡ None
      → l ≡ k → n ≡ length ms → Updates name_cmp places more l (Some n) → IsIndex more (ms ++ (k, v) ∷ [])
  index_inserted places more ms k l v n index absent e f u =
      let named : Updates name_cmp places more k (Some n) = subst (λ x. Updates name_cmp places more x (Some n)) e u in
      index_added places more ms k v index absent (subst (λ x. Updates name_cmp places more k (Some x)) f named)

  -- members of which no name was there before
  put_last : (done ms : List (List ℕ × V)) (m : List ℕ × V) → put_all done (ms ++ m ∷ []) ≡ put (put_all done ms) m.0 m.1
  put_last done [] m = refl
  put_last done (x ∷ ms) m = put_last (put done x.0 x.1) ms m

  pub merged_none : merged {V = V} [] ≡ []
  unfolding merged
  merged_none = refl

  pub merged_more : (ms : List (List ℕ × V)) (i : ℕ) (d : List ℕ × V) → i < length ms → merged (take i ms) ≡ take i ms
      → place_of (take i ms) (get_or ms i d).0 ≡ None → merged (take (i + 1) ms) ≡ take (i + 1) ms
  unfolding merged
  merged_more ms i d l h absent =
      let more : take (i + 1) ms ≡ take i ms ++ get_or ms i d ∷ [] = take_more ms i d l in
      ap (λ xs. put_all [] xs) more ∙ put_last [] (take i ms) (get_or ms i d)
      ∙ ap (λ xs. put xs (get_or ms i d).0 (get_or ms i d).1) h ∙ put_new (take i ms) (get_or ms i d).0 (get_or ms i d).1 absent ∙ sym more
