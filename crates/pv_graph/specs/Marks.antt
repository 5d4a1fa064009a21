-- Marks of nodes, by which it is told which nodes reach themselves.
use Rattle.std.specs.Prelude.{◌≡◌, ℕ, ◌<◌, ◌≤◌, ◌⊎◌, List, [], true, false, length, slice_get, slice_index_or, Some, All, Contains}
use Rattle.pv_graph.specs.declared.marks.Mark.{Mark}

-- a node marked m is in no higher component than one marked n, and in a lower one unless it is
-- cyclic
pub record IsNoHigher (m n : Mark) : Type 0 where
  pub component : m.component ≤ n.component
  pub apart : m.cyclic ≡ false → m.component < n.component

-- a node marked m is so to node j, where that has a mark
abbrev pub IsBelow : List Mark → Mark → ℕ → Type 0
IsBelow marks m j = (n : Mark) → slice_get marks j ≡ Some n → IsNoHigher m n

-- an edge leads from node i with this mark to a cyclic node that has the same root, and is nearer
-- to it unless i is the root
pub record NearsRoot (marks : List Mark) (i : ℕ) (m : Mark) (successors : List ℕ) : Type 0 where
  pub next : ℕ
  pub listed : Contains successors next
  pub mark : Mark
  pub found : slice_get marks next ≡ Some mark
  pub cyclic : mark.cyclic ≡ true
  pub same : mark.root ≡ m.root
  pub nearer : (i ≡ m.root) ⊎ (mark.to_root < m.to_root)

-- an edge leads to node i with this mark from its parent, a cyclic node that has the same root, and
-- is nearer to it
pub record IsReached (g : List (List ℕ)) (marks : List Mark) (i : ℕ) (m : Mark) : Type 0 where
  pub mark : Mark
  pub found : slice_get marks m.parent ≡ Some mark
  pub cyclic : mark.cyclic ≡ true
  pub same : mark.root ≡ m.root
  pub nearer : mark.from_root < m.from_root
  pub edge : slice_get (slice_index_or g m.parent []) m.place ≡ Some i

-- node i with this mark is the root, or is reached from its parent
abbrev pub ComesFromRoot : List (List ℕ) → List Mark → ℕ → Mark → Type 0
ComesFromRoot g marks i m = (i ≡ m.root) ⊎ IsReached g marks i m

-- the mark of node i is right, if those of the other nodes are
pub record IsSound (g : List (List ℕ)) (marks : List Mark) (i : ℕ) (m : Mark) : Type 0 where
  pub below : All (IsBelow marks m) (slice_index_or g i [])
  pub nears : m.cyclic ≡ true → NearsRoot marks i m (slice_index_or g i [])
  pub comes : m.cyclic ≡ true → ComesFromRoot g marks i m

-- these are right marks of the nodes of a graph
pub record AreSound (g : List (List ℕ)) (marks : List Mark) : Type 0 where
  pub counted : length marks ≡ length g
  pub sound : (i : ℕ) (m : Mark) → slice_get marks i ≡ Some m → IsSound g marks i m
