-- Where no node reaches itself, the function tells how many steps the longest walk has.
use Rattle.std.proofs.Common.{◌≡◌, ℕ, zero, suc, ◌+◌, ◌≤◌, ◌↔◌, false, List, [], ◌∷◌, map, length, refl, sym, ap, ◌∙◌, subst, ◌⊎◌, inl, inr, ⊎_elim, arith}
use Rattle.std.specs.Prelude.{Contains}
use Rattle.std.proofs.lemmas.Bool.{cases_lt}
use Rattle.pv_graph.specs.Walks.{IsWalk, ReachesItself, IsLongest}
use Rattle.pv_graph.specs.Reaching.{nodes, successors, most, longest_within, has_cycle, chain_of}
use Rattle.pv_graph.specs.Cycles.{IsAcyclic}
use Rattle.pv_graph.proofs.LongestWalks.{leads_from}
use Rattle.pv_graph.proofs.ShortWalks.{is_short, apart_distinct}
use Rattle.pv_graph.proofs.Successors.{first_in, other_in, first_or_other, leads_to, is_successor, is_node}
use Rattle.pv_graph.proofs.ReachingItself.{none_reaches, none_told}

-- the greatest is no less than any
most_bounds : (f : ℕ → ℕ) (xs : List ℕ) (x : ℕ) → Contains xs x → f x ≤ most (map f xs)
most_bounds f [] x c = absurd (omega (arith, c.1))
most_bounds f (y ∷ xs) x c = ⊎_elim
    (λ e. let s : f y ≡ f x = ap f e in omega (arith, s))
    (λ r. let s : f x ≤ most (map f xs) = most_bounds f xs x r in omega (arith, s))
    (first_or_other y xs x c)

-- and is one of them, or 0
most_met : (f : ℕ → ℕ) (xs : List ℕ) → (most (map f xs) ≡ 0) ⊎ ((x : ℕ) × Contains xs x × (f x ≡ most (map f xs)))
most_met f [] = inl refl
most_met f (y ∷ xs) = ⊎_elim
    (λ below. ⊎_elim
    (λ z. absurd (omega (arith, z, below)))
    (λ r. inr (r.0, other_in y xs r.0 r.1, omega (arith, r.2, below)))
    (most_met f xs))
    (λ above. inr (y, first_in y xs, omega (arith, above)))
    (cases_lt (f y) (most (map f xs)))

module _ (g : List (List ℕ)) where
  -- a walk has as many steps as the function tells
  attained : (n i : ℕ) → (ks : List ℕ) × (j : ℕ) × (length ks ≡ longest_within n g i) × IsWalk g i ks j
  unfolding longest_within
  attained zero i = ([], i, refl, refl)
  attained (suc n) i = ⊎_elim
      (λ z. ([], i, sym z, refl))
      (λ m. let r = attained n m.0 in (m.0 ∷ r.0, r.1, omega (arith, r.2, m.2), (leads_to g i m.0 m.1, r.3)))
      (most_met (λ k. longest_within n g k + 1) (successors g i))

  -- none that is not longer than the bound has more
  bounded : (n i : ℕ) (ks : List ℕ) (j : ℕ) → IsWalk g i ks j → length ks ≤ n → length ks ≤ longest_within n g i
  unfolding longest_within
  bounded n i [] j w l = omega arith
  bounded zero i (k ∷ ks) j w l = absurd (omega (arith, l))
  bounded (suc n) i (k ∷ ks) j w l =
      let r : length ks ≤ longest_within n g k = bounded n k ks j w.1 (omega (arith, l)) in
      let b : longest_within n g k + 1 ≤ most (map (λ x. longest_within n g x + 1) (successors g i)) = most_bounds (λ x. longest_within n g x + 1) (successors g i) k (is_successor g i k w.0) in
      omega (arith, r, b)

  -- the longest walk of all has as many steps
  walked : (i : ℕ) × (ks : List ℕ) × (j : ℕ) × (length ks ≡ chain_of g) × IsWalk g i ks j
  unfolding chain_of
  walked = ⊎_elim
      (λ z. (0, [], 0, sym z, refl))
      (λ m. let r = attained (length g) m.0 in (m.0, r.0, r.1, r.2 ∙ m.2, r.3))
      (most_met (longest_within (length g) g) (nodes g))

  longest : ((i : ℕ) → ¬ ReachesItself g i) → (i : ℕ) (ks : List ℕ) (j : ℕ) → IsWalk g i ks j → length ks ≤ chain_of g
  unfolding chain_of
  longest a i [] j w = omega arith
  longest a i (k ∷ ks) j w =
      let s : length (k ∷ ks) ≤ length g = is_short g i (k ∷ ks) j w (apart_distinct g a i (k ∷ ks) j w) in
      let r : length (k ∷ ks) ≤ longest_within (length g) g i = bounded (length g) i (k ∷ ks) j w s in
      let b : longest_within (length g) g i ≤ most (map (longest_within (length g) g) (nodes g)) = most_bounds (longest_within (length g) g) (nodes g) i (is_node g i (leads_from g i k w.0)) in
      omega (arith, r, b)

  chain_is_longest : ((i : ℕ) → ¬ ReachesItself g i) → IsLongest g (chain_of g)
  chain_is_longest a = record { walked = walked; longest = longest a }

  -- and no other number is that of the longest
  one_longest : (m n : ℕ) → IsLongest g m → IsLongest g n → m ≡ n
  one_longest m n a b =
      let v = a.walked in
      let w = b.walked in
      omega (arith, v.3, w.3, a.longest w.0 w.1 w.2 w.4, b.longest v.0 v.1 v.2 v.4)

  -- no node reaches itself, with so many steps, exactly where none is told to and so many are told
  pub acyclic_right : (n : ℕ) → IsAcyclic g n ↔ ((has_cycle g ≡ false) × (n ≡ chain_of g))
  acyclic_right n = (
    (λ a. (none_told g a.apart, one_longest n (chain_of g) a.longest (chain_is_longest a.apart))),
    (λ h. subst (λ m. IsAcyclic g m) (sym h.1) (record { apart = none_reaches g h.0; longest = chain_is_longest (none_reaches g h.0) })),
  )
