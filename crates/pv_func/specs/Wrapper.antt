-- What functions around validation do.
use Rattle.std.specs.Prelude.{ℕ}
use Rattle.pv_tree.specs.declared.Tree.{Tree}
use Rattle.pv_func.specs.declared.turn.Answer.{Answer}
use Rattle.pv_func.specs.declared.turn.First.{First}
use Rattle.pv_func.specs.declared.turn.Turn.{Turn}

-- How often an object asks at most, how it begins with the tree of its node, and how it goes on: by
-- the state of its last ask, by the number of asks that are left, and by what came of that ask.
pub record Wrapper : Type 0 where
  pub asks : ℕ
  pub start : Tree → First
  pub next : Tree → ℕ → Answer → Turn
