-- Where nodes have heights no node reaches itself, and the greatest height is the longest walk.
use Rattle.std.proofs.Common.{◌≡◌, ℕ, zero, suc, ◌+◌, ◌<◌, ◌≤◌, List, [], ◌∷◌, length, get_or, refl, sym, ap, ◌∙◌, subst, ⊎_elim, arith}
use Rattle.std.specs.Prelude.{Some, slice_get}
use Rattle.std.proofs.lemmas.List.{get_or_past}
use Rattle.std.proofs.lemmas.List.Elements.{All-contains}
use Rattle.std.proofs.lemmas.Bool.{cases_lt}
use Rattle.std.proofs.lemmas.Option.{slice_get_within, slice_get-get_or, get_or_from_slice_get}
use Rattle.pv_graph.specs.Walks.{Leads, IsWalk, ReachesItself}
use Rattle.pv_graph.specs.Heights.{IsBelow, IsHeight, AreHeights, IsGreatest}
use Rattle.pv_graph.specs.Cycles.{IsAcyclic}

-- the nodes below n have these heights
abbrev pub AreHeightsTo : List (List ℕ) → List ℕ → ℕ → Type 0
AreHeightsTo g hs n = (i h : ℕ) → i < n → slice_get hs i ≡ Some h → IsHeight (get_or g i []) hs h

-- one more node has its height
pub heights_more : (g : List (List ℕ)) (hs : List ℕ) (n : ℕ) → AreHeightsTo g hs n → IsHeight (get_or g n []) hs (get_or hs n 0) → AreHeightsTo g hs (n + 1)
heights_more g hs n a here i h l e = ⊎_elim
    (λ less. a i h less e)
    (λ past. let s : n ≡ i = omega arith in
    subst (λ x. IsHeight (get_or g i []) hs x) (get_or_from_slice_get hs i h 0 e) (subst (λ x. IsHeight (get_or g x []) hs (get_or hs x 0)) s here))
    (cases_lt i n)

-- all nodes have theirs
pub heights_all : (g : List (List ℕ)) (hs : List ℕ) (n : ℕ) → length hs ≡ length g → length hs ≤ n → AreHeightsTo g hs n → AreHeights g hs
heights_all g hs n e l a = record { counted = e; right = λ i h f. let w : i < length hs = slice_get_within hs i h f in a i h (omega arith) f }

-- only nodes have successors
pub leads_from : (g : List (List ℕ)) (i j : ℕ) → Leads g i j → i < length g
leads_from g i j e = ⊎_elim (λ h. h)
    (λ h. let n : length (get_or g i []) ≡ 0 = ap length (get_or_past g i [] h) in
    let l : e.listed.0 < length (get_or g i []) = e.listed.1 in
    absurd (omega arith))
    (cases_lt i (length g))

module _ (g : List (List ℕ)) (hs : List ℕ) (a : AreHeights g hs) where
  -- each node's height is right
  height : (i : ℕ) → i < length g → IsHeight (get_or g i []) hs (get_or hs i 0)
  height i l = a.right i (get_or hs i 0) (slice_get-get_or hs i 0 (omega (arith, a.counted)))

  -- each step leads to a lower height
  falls : (i k : ℕ) → Leads g i k → get_or hs k 0 < get_or hs i 0
  falls i k e = All-contains (IsBelow hs (get_or hs i 0)) (get_or g i []) k (height i (leads_from g i k e)).above e.listed
      (get_or hs k 0) (slice_get-get_or hs k 0 (omega (arith, a.counted, e.within)))

  -- a walk falls by a step at least for each edge
  descends : (i : ℕ) (ks : List ℕ) (j : ℕ) → IsWalk g i ks j → get_or hs j 0 + length ks ≤ get_or hs i 0
  descends i [] j w = let e : get_or hs i 0 ≡ get_or hs j 0 = ap (λ x. get_or hs x 0) w in omega arith
  descends i (k ∷ ks) j w =
      let f : get_or hs k 0 < get_or hs i 0 = falls i k w.0 in
      let d : get_or hs j 0 + length ks ≤ get_or hs k 0 = descends k ks j w.1 in
      omega arith

  -- from each node leads a walk of as many steps as its height
  attained : (n i : ℕ) → get_or hs i 0 ≡ n → (ks : List ℕ) × (j : ℕ) × (length ks ≡ n) × IsWalk g i ks j
  attained zero i e = ([], i, refl, refl)
  attained (suc n) i e =
      ⊎_elim
      (λ l. ⊎_elim
      (λ z. absurd (omega (arith, z, e)))
      (λ o. let r = attained n o.successor (get_or_from_slice_get hs o.successor o.below 0 o.found ∙ omega (arith, o.over, e)) in
      (o.successor ∷ r.0, r.1, ap suc r.2, (record { listed = o.listed; within = omega (arith, a.counted, slice_get_within hs o.successor o.below o.found) }, r.3)))
      (height i l).met)
      (λ p. let z : get_or hs i 0 ≡ 0 = get_or_past hs i 0 (omega (arith, a.counted)) in absurd (omega (arith, z, e)))
      (cases_lt i (length g))

  -- so no walk comes back
  apart : (i : ℕ) → ¬ ReachesItself g i
  apart i r =
      let d : get_or hs i 0 + length (r.0 ∷ r.1) ≤ get_or hs i 0 = descends i (r.0 ∷ r.1) i r.2 in
      omega arith

  module _ (n : ℕ) (b : IsGreatest hs n) where
    below : (i : ℕ) → get_or hs i 0 ≤ n
    below i = ⊎_elim (λ l. b.bound i 0 l) (λ p. let z : get_or hs i 0 ≡ 0 = get_or_past hs i 0 p in omega arith) (cases_lt i (length hs))

    walked : (i : ℕ) × (ks : List ℕ) × (j : ℕ) × (length ks ≡ n) × IsWalk g i ks j
    walked = ⊎_elim
        (λ z. (0, [], 0, sym z, refl))
        (λ c. let r = attained n c.0 (get_or_from_slice_get hs c.0 n 0 (slice_get-get_or hs c.0 n c.1 ∙ ap Some c.2)) in (c.0, r.0, r.1, r.2, r.3))
        b.among

    pub is_acyclic : IsAcyclic g n
    is_acyclic = record {
      apart = apart;
      longest = record {
        walked = walked;
        longest = λ i ks j w. let d : get_or hs j 0 + length ks ≤ get_or hs i 0 = descends i ks j w in let e : get_or hs i 0 ≤ n = below i in omega arith;
      };
    }
