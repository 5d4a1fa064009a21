-- Places of names that stand once each.
use Rattle.std.proofs.Common.{◌≡◌, ℕ, zero, suc, ◌+◌, ◌-◌, ◌<◌, ◌≤◌, Bool, true, false, cond, List, [], ◌∷◌, map, length, get_or, take, refl, sym, ap, ◌∙◌, subst, arith, bytes_eq}
use Rattle.std.proofs.lemmas.Option.{slice_get-get_or}
use Rattle.std.specs.Prelude.{Option, None, Some, slice_get}
use Rattle.std.specs.List.{position_from, AllByRecursion, IsDistinct}
use Rattle.std.specs.Cmp.Lexicographic.{bytes_decides, nat_list_eq_equiv}
use Rattle.pv_tree.specs.Merged.{value_at}
use Rattle.pv_tree.specs.Merging.{place_of}
use Rattle.pv_tree.specs.Names.{HasDistinctNames}

-- a name that is the one at a place is not the one at an earlier place
earlier : (x name known : List ℕ) → bytes_eq x known ≡ false → bytes_eq name known ≡ true → bytes_eq name x ≡ false
earlier x name known other same =
    ap (λ n. bytes_eq n x) ((bytes_decides name known).0 same) ∙ nat_list_eq_equiv.symm known x ∙ other

skipped : (b : Bool) (i : ℕ) (o p : Option ℕ) → b ≡ false → o ≡ p → cond b (Some i) o ≡ p
skipped b i o p e f = ap (λ c. cond c (Some i) o) e ∙ f

taken : (b : Bool) (i n : ℕ) (o : Option ℕ) → b ≡ true → i ≡ n → cond b (Some i) o ≡ Some n
taken b i n o e f = ap (λ c. cond c (Some i) o) e ∙ ap Some f

module _ {V : Type 0} where
  abbrev pub place_from : ℕ → List (List ℕ × V) → List ℕ → Option ℕ
  place_from i ms k = position_from (λ m. bytes_eq k m.0) i ms

  all_at : (P : List ℕ → Type 0) (ms : List (List ℕ × V)) (n : ℕ) (m : List ℕ × V) → AllByRecursion P (map (λ x. x.0) ms) → slice_get ms n ≡ Some m → P m.0
  all_at P [] n m a e = cc
  all_at P (x ∷ ms) zero m a e = let same : x ≡ m = cc in subst (λ y. P y.0) same a.0
  all_at P (x ∷ ms) (suc n) m a e = all_at P ms n m a.1 e

  placed_from : (i n : ℕ) (ms : List (List ℕ × V)) (name : List ℕ) (m : List ℕ × V) → HasDistinctNames ms → slice_get ms n ≡ Some m → bytes_eq name m.0 ≡ true
      → place_from i ms name ≡ Some (i + n)
  unfolding IsDistinct
  placed_from i n [] name m d at same = cc
  placed_from i zero (x ∷ ms) name m d at same =
      let here : x ≡ m = cc in
      taken (bytes_eq name x.0) i (i + 0) (place_from (i + 1) ms name) (ap (λ y. bytes_eq name y.0) here ∙ same) (omega arith)
  placed_from i (suc n) (x ∷ ms) name m d at same =
      let next : i + 1 + n ≡ i + suc n = omega arith in
      skipped (bytes_eq name x.0) i (place_from (i + 1) ms name) (Some (i + suc n))
      (earlier x.0 name m.0 (all_at (λ y. bytes_eq x.0 y ≡ false) ms n m d.0 at) same)
      (placed_from (i + 1) n ms name m d.1 at same ∙ ap Some next)

  pub stands : (ms : List (List ℕ × V)) (n : ℕ) (name : List ℕ) (m : List ℕ × V) → n < length ms → m ≡ get_or ms n m → bytes_eq name m.0 ≡ true → HasDistinctNames ms
      → place_of ms name ≡ Some n
  stands ms n name m l at same d =
      let whole : 0 + n ≡ n = omega arith in placed_from 0 n ms name m d (slice_get-get_or ms n m l ∙ ap Some (sym at)) same ∙ ap Some whole

  none_from : (i n : ℕ) (ms : List (List ℕ × V)) (d : List ℕ × V) → HasDistinctNames ms → n < length ms → place_from i (take n ms) (get_or ms n d).0 ≡ None
  unfolding IsDistinct
  none_from i n [] d h l = absurd (omega arith)
  none_from i zero (x ∷ ms) d h l = refl
  none_from i (suc n) (x ∷ ms) d h l =
      skipped (bytes_eq (get_or ms n d).0 x.0) i (place_from (i + 1) (take n ms) (get_or ms n d).0) None
      (nat_list_eq_equiv.symm (get_or ms n d).0 x.0 ∙ all_at (λ y. bytes_eq x.0 y ≡ false) ms n (get_or ms n d) h.0 (slice_get-get_or ms n d (omega arith)))
      (none_from (i + 1) n ms d h.1 (omega arith))

  pub none_before : (ms : List (List ℕ × V)) (n : ℕ) (d : List ℕ × V) → HasDistinctNames ms → n < length ms → place_of (take n ms) (get_or ms n d).0 ≡ None
  none_before ms n d h l = none_from 0 n ms d h l

  -- the value of a name stands at its place
  record IsValueAt (ms : List (List ℕ × V)) (name : List ℕ) (i n : ℕ) : Type 0 where
    from : i ≤ n
    below : n < i + length ms
    value : (d : List ℕ × V) → value_at ms name ≡ Some (get_or ms (n - i) d).1

  value_by : (b : Bool) (i n : ℕ) (x : List ℕ × V) (ms : List (List ℕ × V)) (name : List ℕ) → bytes_eq name x.0 ≡ b
      → (place_from (i + 1) ms name ≡ Some n → IsValueAt ms name (i + 1) n) → cond b (Some i) (place_from (i + 1) ms name) ≡ Some n → IsValueAt (x ∷ ms) name i n
  value_by true i n x ms name s f h =
      let at : i ≡ n = cc in
      let none : 0 ≡ n - i = omega arith in
      record {
        from = omega arith;
        below = omega arith;
        value = λ d. ap (λ b. cond b (Some x.1) (value_at ms name)) s ∙ ap (λ j. Some (get_or (x ∷ ms) j d).1) none;
      }
  value_by false i n x ms name s f h =
      let r : IsValueAt ms name (i + 1) n = f h in
      let least : i + 1 ≤ n = r.from in
      let most : n < i + 1 + length ms = r.below in
      let next : suc (n - (i + 1)) ≡ n - i = omega arith in
      record {
        from = omega arith;
        below = omega arith;
        value = λ d. ap (λ b. cond b (Some x.1) (value_at ms name)) s ∙ r.value d ∙ ap (λ j. Some (get_or (x ∷ ms) j d).1) next;
      }

  value_from : (i n : ℕ) (ms : List (List ℕ × V)) (name : List ℕ) → place_from i ms name ≡ Some n → IsValueAt ms name i n
  value_from i n [] name h = cc
  value_from i n (x ∷ ms) name h = value_by (bytes_eq name x.0) i n x ms name refl (value_from (i + 1) n ms name) h

  pub value_there : (ms : List (List ℕ × V)) (name : List ℕ) (n : ℕ) (d : List ℕ × V) → place_of ms name ≡ Some n → value_at ms name ≡ Some (get_or ms n d).1
  value_there ms name n d h =
      let whole : n - 0 ≡ n = omega arith in
      (value_from 0 n ms name h).value d ∙ ap (λ j. Some (get_or ms j d).1) whole

  pub within : (ms all : List (List ℕ × V)) (name : List ℕ) (o : Option ℕ) (n : ℕ) → o ≡ place_of all name → o ≡ Some n → ms ≡ all → n < length ms
  within ms all name o n place is same =
      let r : n < 0 + length all = (value_from 0 n all name (sym place ∙ is)).below in
      subst (λ xs. n < length xs) (sym same) (omega arith)

  pub place_least : (i : ℕ) (ms : List (List ℕ × V)) (name : List ℕ) (n : ℕ) → place_from i ms name ≡ Some n → i ≤ n
  place_least i ms name n h = (value_from i n ms name h).from

  lacking_by : (b : Bool) (i : ℕ) (x : List ℕ × V) (ms : List (List ℕ × V)) (name : List ℕ)
      → (place_from (i + 1) ms name ≡ None → value_at ms name ≡ None) → cond b (Some i) (place_from (i + 1) ms name) ≡ None → cond b (Some x.1) (value_at ms name) ≡ None
  lacking_by true i x ms name f h = cc
  lacking_by false i x ms name f h = f h

  lacking_from : (i : ℕ) (ms : List (List ℕ × V)) (name : List ℕ) → place_from i ms name ≡ None → value_at ms name ≡ None
  lacking_from i [] name h = refl
  lacking_from i (x ∷ ms) name h = lacking_by (bytes_eq name x.0) i x ms name (lacking_from (i + 1) ms name) h

  pub value_lacking : (ms : List (List ℕ × V)) (name : List ℕ) → place_of ms name ≡ None → value_at ms name ≡ None
  value_lacking ms name h = lacking_from 0 ms name h
