-- The nodes that are written in slots.
use Rattle.std.proofs.Common.{◌≡◌, ℕ, ◌+◌, List, [], ◌∷◌, ◌++◌, Option, Some, None, refl, ap}
use Rattle.pv_node.specs.declared.child_slot.Edge.{Edge}
use Rattle.pv_node.specs.Places.{Path, Slot, listed, extras_slots}
use Rattle.pv_node.specs.Preorder.{optional, written}

pub listed_written : {Y : Type 0} (path : ℕ → Path) (edge : Edge) (i : ℕ) (ys : List Y) → written (listed path edge i ys) ≡ ys
listed_written path edge i [] = refl
listed_written path edge i (y ∷ ys) = ap (λ zs. y ∷ zs) (listed_written path edge (i + 1) ys)

pub listed_then : {Y : Type 0} (path : ℕ → Path) (edge : Edge) (i : ℕ) (ys : List Y) (ss : List (Slot Y)) → written (listed path edge i ys ++ ss) ≡ ys ++ written ss
listed_then path edge i [] ss = refl
listed_then path edge i (y ∷ ys) ss = ap (λ zs. y ∷ zs) (listed_then path edge (i + 1) ys ss)

pub extras_written : {Y : Type 0} (o : Option Y) → written (extras_slots o) ≡ optional o
extras_written None = refl
extras_written (Some y) = refl
