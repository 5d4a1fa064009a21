-- What a contract sees of a sink in memory.
use Rattle.std.specs.Prelude.{ℕ, List}

-- the bytes taken, how many it takes at most in one write and in all, and the counts; `calls` is
-- the number of the next write, and `failing` has the numbers of those that will fail
pub record MemSinkState : Type 0 where
  pub taken : List ℕ
  pub piece : ℕ
  pub room : ℕ
  pub faults : ℕ
  pub calls : ℕ
  pub failing : List ℕ
