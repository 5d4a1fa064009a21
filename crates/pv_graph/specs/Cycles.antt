-- What is told of the cycles of a graph.
use Rattle.std.specs.Prelude.{◌≡◌, ◌↔◌, ℕ, List, Bool, true, false, length, slice_get, Some, Contains}
use Rattle.pv_graph.specs.Walks.{ReachesItself, IsLongest}
use Rattle.pv_graph.specs.Reaching.{flags_of, has_cycle, chain_of}
use Rattle.pv_graph.specs.declared.cycles.Cycles.{Cycles}
use Rattle.pv_graph.specs.declared.cycles.Cycles.TheVariants.{Absent, Present}

-- no node reaches itself, and the longest walk has n steps
pub record IsAcyclic (g : List (List ℕ)) (n : ℕ) : Type 0 where
  pub apart : (i : ℕ) → ¬ ReachesItself g i
  pub longest : IsLongest g n

-- there are as many flags as nodes, those of exactly the nodes that reach themselves are true, and
-- one of them is
pub record MarksCycles (g : List (List ℕ)) (flags : List Bool) : Type 0 where
  pub counted : length flags ≡ length g
  pub told : (i : ℕ) → (slice_get flags i ≡ Some true) ↔ ReachesItself g i
  pub some : Contains flags true

-- what an answer says of a graph
abbrev pub Tells : List (List ℕ) → Cycles → Type 0
Tells g (Absent n) = IsAcyclic g n
Tells g (Present flags) = MarksCycles g flags.items

-- the answer about a graph: no node reaches itself, and the longest walk has so many steps; or some
-- node does, and these are the flags
abbrev pub IsAnswer : List (List ℕ) → Cycles → Type 0
IsAnswer g (Absent n) = (has_cycle g ≡ false) × (n ≡ chain_of g)
IsAnswer g (Present flags) = (has_cycle g ≡ true) × (flags.items ≡ flags_of g)
