-- Pieces of a list.
use Rattle.std.specs.Prelude.{ℕ, List, take, drop}

-- `len` items from the place `start` on
abbrev pub piece : {X : Type 0} → ℕ → ℕ → List X → List X
piece start len xs = take len (drop start xs)
