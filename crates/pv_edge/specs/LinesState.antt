-- What a contract sees of a reader of lines.
use Rattle.std.specs.Prelude.{◌≡◌, ◌≤◌, ℕ, Bool, List, ◌++◌, length, Option}
use Rattle.std.specs.Io.KnownBytes.{Consumes}

-- the bytes that were taken in and not handed out; how many were handed out, with their line feeds;
-- the line in hand; that a read gave no byte; that the end or a refusal was told; and the limits
pub record LinesState : Type 0 where
  pub waiting : List ℕ
  pub place : ℕ
  pub line : List ℕ
  pub closed : Bool
  pub over : Bool
  pub line_limit : ℕ
  pub file_limit : ℕ

-- the bytes that wait, the place of the first in the file, that a read gave no byte, and the limits
pub record FinderState : Type 0 where
  pub waiting : List ℕ
  pub place : ℕ
  pub closed : Bool
  pub line_limit : ℕ
  pub file_limit : ℕ

-- the bytes that wait in a window, how many that were let go still stand before them, how many of
-- the first are known to be no line feed, and how many may wait when more are read
pub record WindowState : Type 0 where
  pub waiting : List ℕ
  pub gone : ℕ
  pub clear : ℕ
  pub limit : ℕ

-- so many bytes came from what was left of a file, and wait behind the others
pub record ReadBehind (rest rest_after : Option (List ℕ)) (n : ℕ) (waiting waiting_after : List ℕ) : Type 0 where
  pub more : List ℕ
  pub count : length more ≡ n
  pub few : n ≤ 4096
  pub taken : Consumes rest rest_after more
  pub whole : waiting_after ≡ waiting ++ more
