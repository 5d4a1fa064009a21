-- The nodes to which edges lead from a node.
use Rattle.std.proofs.Common.{◌≡◌, ℕ, zero, suc, ◌<◌, Bool, true, ltb, List, [], ◌∷◌, length, get_or, refl, sym, ap, ◌∙◌, subst, ◌⊎◌, inl, inr, ⊎_elim, arith}
use Rattle.std.specs.Prelude.{Contains}
use Rattle.std.specs.List.{list_any, filter}
use Rattle.std.proofs.lemmas.Bool.{ltb-true, lt-ltb, cases_Bool, cond-true, cond-false}
use Rattle.std.proofs.lemmas.List.Elements.{All-filter, All-contains, All-contains_itself, filter_passes}
use Rattle.std.proofs.lemmas.List.Folds.{Any-from_list_any, list_any_at}
use Rattle.std.proofs.lemmas.List.FromFn.{length-range_with_len, get_or-range_with_len}
use Rattle.pv_graph.specs.Walks.{Leads}
use Rattle.pv_graph.specs.Reaching.{nodes, successors}

-- the first of a list is in it, and so are the others
pub first_in : {X : Type 0} (x : X) (xs : List X) → Contains (x ∷ xs) x
first_in x xs = (0, omega arith, refl)

pub other_in : {X : Type 0} (x : X) (xs : List X) (y : X) → Contains xs y → Contains (x ∷ xs) y
other_in x xs y c = (suc c.0, omega (arith, c.1), c.2)

-- one that a list contains is the first or another
pub first_or_other : {X : Type 0} (x : X) (xs : List X) (y : X) → Contains (x ∷ xs) y → (x ≡ y) ⊎ Contains xs y
first_or_other x xs y (zero, l, e) = inl e
first_or_other x xs y (suc n, l, e) = inr (n, omega (arith, l), e)

-- a filter keeps what passes
kept : (p : ℕ → Bool) (xs : List ℕ) (k : ℕ) → Contains xs k → p k ≡ true → Contains (filter p xs) k
kept p [] k c t = absurd (omega (arith, c.1))
kept p (x ∷ xs) k c t = ⊎_elim
    (λ e. subst (λ ys. Contains ys k) (sym (cond-true (p x) (x ∷ filter p xs) (filter p xs) (ap p e ∙ t))) (subst (λ y. Contains (x ∷ filter p xs) y) e (first_in x (filter p xs))))
    (λ c. ⊎_elim
    (λ y. subst (λ ys. Contains ys k) (sym (cond-true (p x) (x ∷ filter p xs) (filter p xs) y)) (other_in x (filter p xs) k (kept p xs k c t)))
    (λ n. subst (λ ys. Contains ys k) (sym (cond-false (p x) (x ∷ filter p xs) (filter p xs) n)) (kept p xs k c t))
    (cases_Bool (p x)))
    (first_or_other x xs k c)

module _ (g : List (List ℕ)) where
  -- an edge leads to each of them
  pub leads_to : (i k : ℕ) → Contains (successors g i) k → Leads g i k
  leads_to i k c =
      let all = get_or g i [] in
      let test : ℕ → Bool = λ x. ltb x (length g) in
      record {
        listed = All-contains (Contains all) (successors g i) k (All-filter test (Contains all) all (All-contains_itself all)) c;
        within = ltb-true k (length g) (All-contains (λ x. test x ≡ true) (successors g i) k (filter_passes test all) c);
      }

  -- each node to which an edge leads is one of them
  pub is_successor : (i k : ℕ) → Leads g i k → Contains (successors g i) k
  is_successor i k e = kept (λ x. ltb x (length g)) (get_or g i []) k e.listed (lt-ltb k (length g) e.within)

  -- each number of a node is among the nodes
  pub is_node : (i : ℕ) → i < length g → Contains (nodes g) i
  is_node i l = (i, omega (arith, l, length-range_with_len 0 (length g)), get_or-range_with_len 0 (length g) i i l ∙ omega arith)

-- a test finds one that passes
pub finds : {X : Type 0} (p : X → Bool) (xs : List X) (x : X) → Contains xs x → p x ≡ true → list_any p xs ≡ true
finds p xs x c t = list_any_at p xs c.0 x c.1 (ap p c.2 ∙ t)

-- and one that it finds passes
pub found : {X : Type 0} (p : X → Bool) (xs : List X) → list_any p xs ≡ true → (x : X) × Contains xs x × (p x ≡ true)
found p xs h = let a = Any-from_list_any p xs h in (a.1, (a.0, a.2, a.3), a.4)
