-- How far bytes have been put.
use Rattle.std.specs.Prelude.{◌≡◌, ◌<◌, ℕ, List, ◌++◌, length, Option}
use Rattle.std.specs.Io.KnownBytes.{Appends}

-- all but the rest was taken
pub record Sent (old new : Option (List ℕ)) (all rest : List ℕ) : Type 0 where
  pub front : List ℕ
  pub whole : all ≡ front ++ rest
  pub taken : Appends old new front

-- a front was taken, and not the whole
pub record SentInPart (old new : Option (List ℕ)) (all : List ℕ) : Type 0 where
  pub rest : List ℕ
  pub sent : Sent old new all rest
  pub short : 0 < length rest
