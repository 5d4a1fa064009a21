-- What is found among bytes that wait.
use Rattle.std.specs.Prelude.{◌≡◌, ℕ, ◌+◌, ◌<◌, ◌≤◌, ◌==◌, Bool, true, List, [], ◌++◌, length, take, drop, Option, Result, Ok, Err}
use Rattle.std.specs.Io.KnownBytes.{Consumes}
use Rattle.pv_edge.specs.LinesState.{FinderState}
use Rattle.pv_edge.specs.Reading.{IsEnded, IsTooLarge, IsUnended}
use Rattle.pv_edge.specs.declared.finding.Found.{Found}
use Rattle.pv_edge.specs.declared.finding.Found.TheVariants.{Ended, Last, Nothing}
use Rattle.pv_edge.specs.declared.line_fault.LineFault.{LineFault}
use Rattle.pv_edge.specs.declared.line_fault.LineFault.TheVariants.{Failed, TooLarge}

-- what is found of the bytes that waited and came, where they begin at the place
abbrev pub Finds : Result Found LineFault → ℕ → ℕ → ℕ → List ℕ → Bool → Type 0
Finds (Ok (Ended at)) line_limit file_limit place bytes closed =
    IsEnded line_limit file_limit place bytes (take at bytes) (drop (at + 1) bytes) × (at < length bytes)
Finds (Ok Last) line_limit file_limit place bytes closed =
    IsUnended line_limit file_limit place bytes × (0 < length bytes) × (closed ≡ true)
Finds (Ok Nothing) line_limit file_limit place bytes closed = (bytes ≡ []) × (closed ≡ true)
Finds (Err Failed) line_limit file_limit place bytes closed =
    IsUnended line_limit file_limit place bytes
Finds (Err TooLarge) line_limit file_limit place bytes closed =
    IsTooLarge line_limit file_limit place bytes

-- one read gave bytes, which wait behind the others, or none at the end of the file
pub record Reads (rest rest_after : Option (List ℕ)) (given given_after : ℕ) (old new : FinderState) : Type 0 where
  pub more : List ℕ
  pub taken : Consumes rest rest_after more
  pub counted : given_after ≡ given + length more
  pub few : length more ≤ 4096
  pub waits : new ≡ record old { waiting = old.waiting ++ more; closed = length more == 0 }
