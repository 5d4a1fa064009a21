-- The functions that tell which nodes reach themselves are right.
use Rattle.std.proofs.Common.{◌≡◌, ℕ, zero, suc, ◌<◌, ◌≤◌, ◌↔◌, Bool, true, false, ◌||◌, eqb, List, [], ◌∷◌, length, get_or, refl, sym, ap, ◌∙◌, subst, ⊎_elim, arith}
use Rattle.std.specs.Prelude.{Some, slice_get, Contains}
use Rattle.std.specs.List.{list_any}
use Rattle.std.proofs.lemmas.Bool.{false≢true, both_ways, eq-eqb, eqb-true, cases_Bool, or_cases, or_left, or_right, false_from_ne_true}
use Rattle.std.proofs.lemmas.List.FromFn.{length-map-range_with_len, get_or-map-range_with_len, fill_by_all}
use Rattle.std.proofs.lemmas.Option.{slice_get_within, slice_get-get_or, get_or_from_slice_get}
use Rattle.pv_graph.specs.Walks.{Leads, IsWalk, ReachesItself}
use Rattle.pv_graph.specs.Reaching.{successors, leads_within, reaches_itself, flags_of, has_cycle}
use Rattle.pv_graph.specs.Cycles.{MarksCycles}
use Rattle.pv_graph.proofs.LongestWalks.{leads_from}
use Rattle.pv_graph.proofs.ShortWalks.{shorten, is_short}
use Rattle.pv_graph.proofs.Successors.{leads_to, is_successor, finds, found}

module _ (g : List (List ℕ)) where
  -- a walk leads to where one is told to
  walk_of : (n i j : ℕ) → leads_within n g i j ≡ true → (k : ℕ) × (ks : List ℕ) × IsWalk g i (k ∷ ks) j
  unfolding leads_within
  walk_of zero i j h = absurd (false≢true h)
  walk_of (suc n) i j h =
      let f = found (λ k. eqb k j || leads_within n g k j) (successors g i) h in
      let e : Leads g i f.0 = leads_to g i f.0 f.1 in
      ⊎_elim
      (λ here. (f.0, [], (e, eqb-true f.0 j here)))
      (λ more. let r = walk_of n f.0 j more in (f.0, r.0 ∷ r.1, (e, r.2)))
      (or_cases (eqb f.0 j) (leads_within n g f.0 j) f.2)

  -- and is told to where one leads that is not longer
  told_within : (n i k : ℕ) (ks : List ℕ) (j : ℕ) → IsWalk g i (k ∷ ks) j → length (k ∷ ks) ≤ n → leads_within n g i j ≡ true
  unfolding leads_within
  told_within zero i k ks j w l = absurd (omega (arith, l))
  told_within (suc n) i k [] j w l =
      finds (λ x. eqb x j || leads_within n g x j) (successors g i) k (is_successor g i k w.0) (or_left (eqb k j) (leads_within n g k j) (eq-eqb k j w.1))
  told_within (suc n) i k (h ∷ ks) j w l =
      finds (λ x. eqb x j || leads_within n g x j) (successors g i) k (is_successor g i k w.0)
      (or_right (eqb k j) (leads_within n g k j) (told_within n k h ks j w.1 (omega (arith, l))))

  -- a node is told to reach itself exactly where it does
  reaches : (i : ℕ) → reaches_itself g i ≡ true → ReachesItself g i
  unfolding reaches_itself
  reaches i h = walk_of (length g) i i h

  pub is_told : (i : ℕ) → ReachesItself g i → reaches_itself g i ≡ true
  unfolding reaches_itself
  is_told i r =
      let s = shorten g i r.0 r.1 i r.2 in
      told_within (length g) i r.0 s.0 i s.1 (is_short g i (r.0 ∷ s.0) i s.1 s.2)

  pub told_right : (i : ℕ) → (reaches_itself g i ≡ true) ↔ ReachesItself g i
  told_right i = (reaches i, is_told i)

  -- the flags are as many as the nodes, each that of its node
  flags_counted : length (flags_of g) ≡ length g
  unfolding flags_of
  flags_counted = length-map-range_with_len (reaches_itself g) 0 (length g)

  pub flag_at : (i : ℕ) (d : Bool) → i < length g → get_or (flags_of g) i d ≡ reaches_itself g i
  unfolding flags_of
  flag_at i d l = get_or-map-range_with_len (reaches_itself g) 0 (length g) i i d l (omega arith)

  -- those of the nodes that reach themselves are true
  flags_told : (i : ℕ) → (slice_get (flags_of g) i ≡ Some true) ↔ ReachesItself g i
  flags_told i = (
    (λ h. let l : i < length (flags_of g) = slice_get_within (flags_of g) i true h in
        reaches i (sym (flag_at i true (omega (arith, l, flags_counted))) ∙ get_or_from_slice_get (flags_of g) i true true h)),
    (λ r. let l : i < length g = leads_from g i r.0 r.2.0 in
        slice_get-get_or (flags_of g) i true (omega (arith, l, flags_counted)) ∙ ap Some (flag_at i true l ∙ is_told i r)),
  )

  -- where some node is told to reach itself, the flags mark the nodes that do
  flags_mark : has_cycle g ≡ true → MarksCycles g (flags_of g)
  unfolding has_cycle
  flags_mark h = record {
    counted = flags_counted;
    told = flags_told;
    some = let f = found (λ flag. flag) (flags_of g) h in subst (λ x. Contains (flags_of g) x) f.2 f.1;
  }

  -- no others do
  flag_is : (flags : List Bool) → MarksCycles g flags → (i : ℕ) → i < length flags → get_or flags i false ≡ reaches_itself g i
  flag_is flags m i l = ⊎_elim
      (λ t. get_or_from_slice_get flags i true false ((m.told i).1 (reaches i t)) ∙ sym t)
      (λ f. false_from_ne_true (get_or flags i false)
      (λ t. both_ways (reaches_itself g i) f (is_told i ((m.told i).0 (slice_get-get_or flags i false l ∙ ap Some t)))) ∙ sym f)
      (cases_Bool (reaches_itself g i))

  marks_are_flags : (flags : List Bool) → MarksCycles g flags → flags ≡ flags_of g
  unfolding flags_of
  marks_are_flags flags m = fill_by_all (reaches_itself g) flags (length g) false m.counted (λ i l. flag_is flags m i (omega (arith, l, m.counted)))

  marks_some : (flags : List Bool) → MarksCycles g flags → has_cycle g ≡ true
  unfolding has_cycle
  marks_some flags m = subst (λ fs. list_any (λ flag. flag) fs ≡ true) (marks_are_flags flags m) (finds (λ flag. flag) flags true m.some refl)

  -- where none is told to, none does
  pub none_reaches : has_cycle g ≡ false → (i : ℕ) → ¬ ReachesItself g i
  unfolding has_cycle
  none_reaches h i r =
      let l : i < length g = leads_from g i r.0 r.2.0 in
      let c : Contains (flags_of g) true = (i, omega (arith, l, flags_counted), flag_at i true l ∙ is_told i r) in
      both_ways (has_cycle g) h (finds (λ flag. flag) (flags_of g) true c refl)

  -- where some node is told to, one does
  pub some_reaches : has_cycle g ≡ true → (i : ℕ) × ReachesItself g i
  some_reaches h =
      let c = (flags_mark h).some in
      (c.0, (flags_told c.0).0 (slice_get-get_or (flags_of g) c.0 true c.1 ∙ ap Some c.2))

  pub none_told : ((i : ℕ) → ¬ ReachesItself g i) → has_cycle g ≡ false
  none_told a = false_from_ne_true (has_cycle g) (λ h. let r = some_reaches h in a r.0 r.1)

  -- flags mark the nodes that reach themselves exactly where some node does and they are the flags of the graph
  pub marks_right : (flags : List Bool) → MarksCycles g flags ↔ ((has_cycle g ≡ true) × (flags ≡ flags_of g))
  marks_right flags = (
    (λ m. (marks_some flags m, marks_are_flags flags m)),
    (λ h. subst (λ fs. MarksCycles g fs) (sym h.1) (flags_mark h.0)),
  )
