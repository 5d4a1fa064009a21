-- What a writer leaves when it stops early.
use Rattle.std.specs.Prelude.{◌≡◌, ℕ, List, ◌++◌}

-- `new` begins with `old`
pub record IsFront (old new : List ℕ) : Type 0 where
  pub more : List ℕ
  pub is : new ≡ old ++ more
