-- What a reader of lines hands out.
use Rattle.std.specs.Prelude.{◌≡◌, ℕ, ◌+◌, ◌-◌, ◌<◌, ◌≤◌, ◌⊎◌, true, List, [], ◌∷◌, ◌++◌, length, take, Option, Some, Result, Ok, Err}
use Rattle.std.specs.Io.KnownBytes.{Consumes}
use Rattle.pv_edge.specs.Cutting.{HasNoFeed, line_feed, ended_lines, fault_place}
use Rattle.pv_edge.specs.LinesState.{LinesState}
use Rattle.pv_edge.specs.declared.lines.Next.{Next}
use Rattle.pv_edge.specs.declared.lines.Next.TheVariants.{Line, End}
use Rattle.pv_edge.specs.declared.line_fault.LineFault.{LineFault}
use Rattle.pv_edge.specs.declared.line_fault.LineFault.TheVariants.{Failed, TooLarge}

-- no line ends in these bytes, which begin at the place, and they pass no limit
pub record IsUnended (line_limit file_limit place : ℕ) (bytes : List ℕ) : Type 0 where
  pub one : HasNoFeed bytes
  pub short : length bytes ≤ line_limit
  pub within : place + length bytes ≤ file_limit

-- the first of these bytes are a line, which a line feed ends before any fault
pub record IsEnded (line_limit file_limit place : ℕ) (bytes line rest : List ℕ) : Type 0 where
  pub cut : bytes ≡ line ++ line_feed ∷ rest
  pub one : HasNoFeed line
  pub short : length line ≤ line_limit
  pub within : place + length line < file_limit

-- these bytes pass a limit before a line ends in them
pub record IsTooLarge (line_limit file_limit place : ℕ) (bytes : List ℕ) : Type 0 where
  pub at : ℕ
  pub fault : fault_place line_limit (file_limit - place) bytes ≡ Some at
  pub none : ended_lines (take at bytes) ≡ []

-- a line is in hand: a line feed ends it, and what follows that waits; or it is the last of the
-- file, and nothing waits
pub record HandsEnded (bytes : List ℕ) (old new : LinesState) : Type 0 where
  pub line : IsEnded old.line_limit old.file_limit old.place bytes new.line new.waiting
  pub place : new.place ≡ old.place + length new.line + 1

pub record HandsLast (bytes : List ℕ) (old new : LinesState) : Type 0 where
  pub closed : new.closed ≡ true
  pub some : 0 < length bytes
  pub whole : IsUnended old.line_limit old.file_limit old.place bytes
  pub line : new.line ≡ bytes
  pub nothing : new.waiting ≡ []
  pub place : new.place ≡ old.place + length bytes

-- the file has ended, and nothing waits
pub record HandsNone (bytes : List ℕ) (new : LinesState) : Type 0 where
  pub closed : new.closed ≡ true
  pub none : bytes ≡ []
  pub nothing : new.waiting ≡ []
  pub line : new.line ≡ []

-- no line is in hand, and the bytes wait on
pub record KeepsWaiting (bytes : List ℕ) (old new : LinesState) : Type 0 where
  pub waiting : new.waiting ≡ bytes
  pub line : new.line ≡ []
  pub place : new.place ≡ old.place

-- what is answered of the bytes that waited and came
abbrev pub NextGives : Result Next LineFault → List ℕ → LinesState → LinesState → Type 0
NextGives (Ok Line) bytes old new = HandsEnded bytes old new ⊎ HandsLast bytes old new
NextGives (Ok End) bytes old new = HandsNone bytes new
NextGives (Err Failed) bytes old new =
    IsUnended old.line_limit old.file_limit old.place bytes × KeepsWaiting bytes old new
NextGives (Err TooLarge) bytes old new =
    IsTooLarge old.line_limit old.file_limit old.place bytes × KeepsWaiting bytes old new

-- some bytes come from the shelf, behind those that wait
pub record Takes (rest rest_after : Option (List ℕ)) (given given_after : ℕ) (G : List ℕ → Type 0) : Type 0 where
  pub more : List ℕ
  pub taken : Consumes rest rest_after more
  pub counted : given_after ≡ given + length more
  pub gives : G more
