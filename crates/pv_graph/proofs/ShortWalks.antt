-- Walks on which no node comes twice, which have at most as many steps as there are nodes.
use Rattle.std.proofs.Common.{◌≡◌, ℕ, ◌<◌, ◌≤◌, true, false, eqb, List, [], ◌∷◌, length, sym, subst, ⊎_elim}
use Rattle.std.specs.List.{list_any, AllByRecursion, IsDistinct}
use Rattle.std.proofs.lemmas.Bool.{false≢true, eqb-true, cases_Bool, or_cases, or_parts, false_from_ne_true}
use Rattle.std.proofs.lemmas.Map.Steps.{length-le_from_distinct_below}
use Rattle.pv_graph.specs.Walks.{IsWalk, ReachesItself}

-- a number that is not among others differs from each of them
fresh : (k : ℕ) (xs : List ℕ) → list_any (eqb k) xs ≡ false → AllByRecursion (λ y. eqb k y ≡ false) xs
fresh k [] h = tt
fresh k (x ∷ xs) h = let p = or_parts (eqb k x) (list_any (eqb k) xs) h in (p.0, fresh k xs p.1)

module _ (g : List (List ℕ)) where
  -- the nodes on a walk are nodes
  all_within : (i : ℕ) (ks : List ℕ) (j : ℕ) → IsWalk g i ks j → (q : ℕ) → list_any (eqb q) ks ≡ true → q < length g
  all_within i [] j w q h = absurd (false≢true h)
  all_within i (k ∷ ks) j w q h = ⊎_elim
      (λ e. subst (λ x. x < length g) (sym (eqb-true q k e)) w.0.within)
      (λ r. all_within k ks j w.1 q r)
      (or_cases (eqb q k) (list_any (eqb q) ks) h)

  -- a walk on which none comes twice is short
  pub is_short : (i : ℕ) (ks : List ℕ) (j : ℕ) → IsWalk g i ks j → IsDistinct eqb ks → length ks ≤ length g
  is_short i ks j w d = length-le_from_distinct_below ks (length g) d (all_within i ks j w)

  -- a walk past k, up to k
  until : (i x : ℕ) (xs : List ℕ) (j k : ℕ) → IsWalk g i (x ∷ xs) j → list_any (eqb k) (x ∷ xs) ≡ true → (hs : List ℕ) × IsWalk g i (x ∷ hs) k
  until i x [] j k w h = ⊎_elim
      (λ e. ([], (w.0, sym (eqb-true k x e))))
      (λ r. absurd (false≢true r))
      (or_cases (eqb k x) false h)
  until i x (y ∷ ys) j k w h = ⊎_elim
      (λ e. ([], (w.0, sym (eqb-true k x e))))
      (λ r. let u = until x y ys j k w.1 r in (y ∷ u.0, (w.0, u.1)))
      (or_cases (eqb k x) (list_any (eqb k) (y ∷ ys)) h)

  -- a walk past k, from k on
  from : (i : ℕ) (xs : List ℕ) (j k : ℕ) → IsWalk g i xs j → IsDistinct eqb xs → list_any (eqb k) xs ≡ true
      → (hs : List ℕ) × IsWalk g k hs j × IsDistinct eqb (k ∷ hs)
  unfolding IsDistinct
  from i [] j k w d h = absurd (false≢true h)
  from i (x ∷ xs) j k w d h = ⊎_elim
      (λ e. let s : x ≡ k = sym (eqb-true k x e) in
      (xs, subst (λ y. IsWalk g y xs j) s w.1, subst (λ y. IsDistinct eqb (y ∷ xs)) s d))
      (λ r. from x xs j k w.1 d.1 r)
      (or_cases (eqb k x) (list_any (eqb k) xs) h)

  -- where a walk leads, one leads on which none comes twice
  pub shorten : (i k : ℕ) (ks : List ℕ) (j : ℕ) → IsWalk g i (k ∷ ks) j → (hs : List ℕ) × IsWalk g i (k ∷ hs) j × IsDistinct eqb (k ∷ hs)
  unfolding IsDistinct
  shorten i k [] j w = ([], w, (tt, tt))
  shorten i k (h ∷ ks) j w =
      let r = shorten k h ks j w.1 in
      ⊎_elim
      (λ e. let o = from k (h ∷ r.0) j k r.1 r.2 e in (o.0, (w.0, o.1), o.2))
      (λ e. (h ∷ r.0, (w.0, r.1), (fresh k (h ∷ r.0) e, r.2)))
      (cases_Bool (list_any (eqb k) (h ∷ r.0)))

  -- where no node reaches itself, none comes twice on any walk
  pub apart_distinct : ((i : ℕ) → ¬ ReachesItself g i) → (i : ℕ) (ks : List ℕ) (j : ℕ) → IsWalk g i ks j → IsDistinct eqb ks
  unfolding IsDistinct
  apart_distinct a i [] j w = tt
  apart_distinct a i (k ∷ []) j w = (tt, tt)
  apart_distinct a i (k ∷ h ∷ ks) j w =
      let new : list_any (eqb k) (h ∷ ks) ≡ false = false_from_ne_true (list_any (eqb k) (h ∷ ks)) (λ t. let u = until k h ks j k w.1 t in a k (h, u.0, u.1)) in
      (fresh k (h ∷ ks) new, apart_distinct a k (h ∷ ks) j w.1)
