-- Walks in a graph, which is given as the successors of each node, by number from 0.
use Rattle.std.specs.Prelude.{◌≡◌, ℕ, ◌<◌, ◌≤◌, List, [], ◌∷◌, length, slice_index_or, Contains}

-- an edge leads from i to j: j stands among the successors of i, and is a node
pub record Leads (g : List (List ℕ)) (i j : ℕ) : Type 0 where
  pub listed : Contains (slice_index_or g i []) j
  pub within : j < length g

-- from i along the nodes ks, an edge to each, to j; without a step from each number to itself
abbrev pub IsWalk : List (List ℕ) → ℕ → List ℕ → ℕ → Type 0
IsWalk g i [] j = i ≡ j
IsWalk g i (k ∷ ks) j = Leads g i k × IsWalk g k ks j

-- some walk of one or more steps leads from i to i
abbrev pub ReachesItself : List (List ℕ) → ℕ → Type 0
ReachesItself g i = (k : ℕ) × (ks : List ℕ) × IsWalk g i (k ∷ ks) i

-- there is a walk of n steps, and none has more
pub record IsLongest (g : List (List ℕ)) (n : ℕ) : Type 0 where
  pub walked : (i : ℕ) × (ks : List ℕ) × (j : ℕ) × (length ks ≡ n) × IsWalk g i ks j
  pub longest : (i : ℕ) (ks : List ℕ) (j : ℕ) → IsWalk g i ks j → length ks ≤ n
