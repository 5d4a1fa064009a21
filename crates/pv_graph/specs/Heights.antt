-- Heights of nodes: numbers that tell how long walks are.
use Rattle.std.specs.Prelude.{◌≡◌, ℕ, ◌+◌, ◌<◌, ◌≤◌, ◌⊎◌, List, [], length, slice_get, slice_index_or, Some, All, Contains}

-- the height of node j, where it has one, is below this height
abbrev pub IsBelow : List ℕ → ℕ → ℕ → Type 0
IsBelow heights height j = (h : ℕ) → slice_get heights j ≡ Some h → h < height

-- the height is one more than that of a successor
pub record IsOneOver (successors heights : List ℕ) (height : ℕ) : Type 0 where
  pub successor : ℕ
  pub listed : Contains successors successor
  pub below : ℕ
  pub found : slice_get heights successor ≡ Some below
  pub over : below + 1 ≡ height

-- the height is 0, or one more than that of a successor
abbrev pub IsMet : List ℕ → List ℕ → ℕ → Type 0
IsMet successors heights height = (height ≡ 0) ⊎ IsOneOver successors heights height

-- the height is that of a node with these successors
pub record IsHeight (successors heights : List ℕ) (height : ℕ) : Type 0 where
  pub above : All (IsBelow heights height) successors
  pub met : IsMet successors heights height

-- these are the heights of the nodes of a graph
pub record AreHeights (g : List (List ℕ)) (heights : List ℕ) : Type 0 where
  pub counted : length heights ≡ length g
  pub right : (i h : ℕ) → slice_get heights i ≡ Some h
      → IsHeight (slice_index_or g i []) heights h

-- none of the heights is greater, and it is one of them, or 0
pub record IsGreatest (heights : List ℕ) (n : ℕ) : Type 0 where
  pub bound : All (λ h. h ≤ n) heights
  pub among : (n ≡ 0) ⊎ Contains heights n
