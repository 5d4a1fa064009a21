-- Where each edge leads to a larger number, or else to a node of a set, no walk comes back but by a
-- node of the set.
use Rattle.std.proofs.Common.{◌≡◌, ℕ, true, ◌+◌, ◌<◌, ◌≤◌, List, [], ◌∷◌, length, refl, ◌⊎◌, inl, inr, ⊎_elim, arith}
use Rattle.std.specs.Prelude.{Contains}
use Rattle.pv_graph.specs.Walks.{Leads, IsWalk, ReachesItself}
use Rattle.pv_graph.specs.Reaching.{reaches_itself, has_cycle}
use Rattle.pv_graph.proofs.JoinedWalks.{comes_back}
use Rattle.pv_graph.proofs.Successors.{first_in, other_in}
use Rattle.pv_graph.proofs.ReachingItself.{some_reaches, is_told}

-- a walk leads by one or more steps to a node of the set, and from it on
record Passes (g : List (List ℕ)) (P : ℕ → Type 0) (i : ℕ) (ks : List ℕ) (j : ℕ) : Type 0 where
  node : ℕ
  among : Contains ks node
  chosen : P node
  first : ℕ
  others : List ℕ
  before : IsWalk g i (first ∷ others) node
  rest : List ℕ
  after : IsWalk g node rest j

module _ (g : List (List ℕ)) (P : ℕ → Type 0) (climbs : (i k : ℕ) → Leads g i k → P k ⊎ (i < k)) where
  -- a walk passes a node of the set, or leads up
  rises : (i : ℕ) (ks : List ℕ) (j : ℕ) → IsWalk g i ks j → Passes g P i ks j ⊎ (i + length ks ≤ j)
  rises i [] j w = inr (omega (arith, w))
  rises i (k ∷ ks) j w = ⊎_elim
      (λ p. inl (record { node = k; among = first_in k ks; chosen = p; first = k; others = []; before = (w.0, refl); rest = ks; after = w.1 }))
      (λ up. ⊎_elim
      (λ p. inl (record {
        node = p.node;
        among = other_in k ks p.node p.among;
        chosen = p.chosen;
        first = k;
        others = p.first ∷ p.others;
        before = (w.0, p.before);
        rest = p.rest;
        after = p.after;
      }))
      (λ over. inr (omega (arith, up, over)))
      (rises k ks j w.1))
      (climbs i k w.0)

  -- one that comes back passes such a node, which reaches itself
  pub passes : (i k : ℕ) (ks : List ℕ) → IsWalk g i (k ∷ ks) i → (j : ℕ) × Contains (k ∷ ks) j × P j × ReachesItself g j
  passes i k ks w = ⊎_elim
      (λ p. (p.node, p.among, p.chosen, comes_back g p.node p.rest i p.first p.others p.after p.before))
      (λ over. absurd (omega (arith, over)))
      (rises i (k ∷ ks) i w)

  -- so where some node is told to reach itself, one of the set is
  pub some_chosen : has_cycle g ≡ true → (j : ℕ) × P j × (reaches_itself g j ≡ true)
  some_chosen h =
      let r = some_reaches g h in
      let p = passes r.0 r.1.0 r.1.1 r.1.2 in
      (p.0, p.2, is_told g p.0 p.3)
