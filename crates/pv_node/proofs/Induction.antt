-- Induction on schemas, by the slots of a node.
use Rattle.std.proofs.Common.{ℕ, zero, suc, ◌≤◌, List, [], ◌∷◌, ◌++◌, length, length-append, Option, Some, None, ap, arith}
use Rattle.std.specs.List.{flat_map}
use Rattle.pv_rules.specs.declared.Settings.{Settings}
use Rattle.pv_node.specs.declared.node.Node.{Node}
use Rattle.pv_node.specs.Places.{Path, Slot, slots_of, under, places_of, places_at, places_in}
use Rattle.pv_rules.specs.Settings.{plain}
use Rattle.pv_node.proofs.Openings.{opens}

abbrev pub OnNode : (Node → Type 0) → Option Node → Type 0
OnNode P None = Unit {0}
OnNode P (Some n) = P n

abbrev pub InSlots : (Node → Type 0) → List (Slot Node) → Type 0
InSlots P [] = Unit {0}
InSlots P (slot ∷ ss) = OnNode P slot.node × InSlots P ss

module _ (P : Node → Type 0) (step : (n : Node) → InSlots P (slots_of n) → P n) where
  abbrev Below : ℕ → Type 0
  Below k = (p : Path) (n : Node) (s : Settings) → length (places_of p n s) ≤ k → P n

  at_node : (k : ℕ) → Below k → (p : Path) (s : Settings) (o : Option Node) → length (places_at p s o) ≤ k → OnNode P o
  at_node k below p s None h = tt
  at_node k below p s (Some n) h = below p n s h

  in_slots : (k : ℕ) → Below k → (p : Path) (s : Settings) (ss : List (Slot Node)) → length (flat_map (places_in p s) ss) ≤ k → InSlots P ss
  in_slots k below p s [] h = tt
  in_slots k below p s (slot ∷ ss) h =
      let l = length-append (places_in p s slot) (flat_map (places_in p s) ss) in
      (at_node k below (p ++ slot.path) s slot.node (omega (arith, l, h)), in_slots k below p s ss (omega (arith, l, h)))

  up_to : (k : ℕ) → Below k
  up_to zero p n s h = absurd (let e = ap length (opens p n s) in omega (arith, e, h))
  up_to (suc k) p n s h =
      let e = ap length (opens p n s) in
      step n (in_slots k (up_to k) p (under n s) (slots_of n) (omega (arith, e, h)))

  pub by_slots : (n : Node) → P n
  by_slots n = up_to (length (places_of [] n plain)) [] n plain (omega arith)
