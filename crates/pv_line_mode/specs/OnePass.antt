-- What was read of a file of lines and printed of it, when reading it ends.
use Rattle.std.specs.Prelude.{◌≡◌, ℕ, ◌+◌, ◌<◌, ◌≤◌, Bool, List, [], ◌∷◌, ◌++◌, length, Option, Some, None, Result, Ok, Err, IfSome}
use Rattle.std.specs.List.{flat_map, list_all, sum_by}
use Rattle.std.specs.Io.KnownBytes.{Appends, Consumes, IsAtEnd}
use Rattle.pv_edge.specs.Cutting.{ended_lines, fault_place, lines_of}
use Rattle.pv_line_mode.specs.declared.stop.Stop.{Stop}
use Rattle.pv_line_mode.specs.declared.stop.Stop.TheVariants.{Memory, WriteFailed, ReadFailed, TooLarge}

-- the answers to these lines, one after the other
abbrev pub texts : (List ℕ → List ℕ) → List (List ℕ) → List ℕ
texts text lines = flat_map text lines

-- how many bytes these lines have, each with its line feed
abbrev pub size_of : List (List ℕ) → ℕ
size_of lines = sum_by (λ line. length line + 1) lines

-- these are the first of all lines
pub record IsFront (first all : List (List ℕ)) : Type 0 where
  pub later : List (List ℕ)
  pub whole : all ≡ first ++ later

-- These bytes came from the file. These lines of it, the first, were answered whole, and then a
-- part of an answer was taken. No more than a line and one read came that was not answered.
pub record OnePass (text : List ℕ → List ℕ) (line_limit file_limit : ℕ) (rest rest_after : Option (List ℕ)) (given given_after : ℕ) (took took_after : Option (List ℕ)) (Ends : List ℕ → List (List ℕ) → List ℕ → Type 0) : Type 0 where
  pub bytes : List ℕ
  pub lines : List (List ℕ)
  pub part : List ℕ
  pub taken : Consumes rest rest_after bytes
  pub counted : given_after ≡ given + length bytes
  pub first : IfSome rest (λ content. IsFront lines (lines_of line_limit file_limit content))
  pub grew : Appends took took_after (texts text lines ++ part)
  pub delay : length bytes ≤ size_of lines + line_limit + 4096
  pub ends : Ends bytes lines part

-- the file has ended, and all of its lines were answered
pub record AllAnswered (valid : List ℕ → Bool) (line_limit file_limit : ℕ) (rest_after : Option (List ℕ)) (all_valid : Bool) (bytes : List ℕ) (lines : List (List ℕ)) (part : List ℕ) : Type 0 where
  pub end : IsAtEnd rest_after
  pub none : fault_place line_limit file_limit bytes ≡ None
  pub all : lines ≡ lines_of line_limit file_limit bytes
  pub whole : part ≡ []
  pub judged : all_valid ≡ list_all valid lines

-- a byte that makes a line or the file too large came, and all lines before it were answered
pub record AllBeforeFault (line_limit file_limit : ℕ) (bytes : List ℕ) (lines : List (List ℕ)) (part : List ℕ) : Type 0 where
  pub at : ℕ
  pub fault : fault_place line_limit file_limit bytes ≡ Some at
  pub all : lines ≡ lines_of line_limit file_limit bytes
  pub whole : part ≡ []

-- all lines that had ended were answered, and no byte at fault had come
pub record AllEnded (line_limit file_limit : ℕ) (bytes : List ℕ) (lines : List (List ℕ)) (part : List ℕ) : Type 0 where
  pub none : fault_place line_limit file_limit bytes ≡ None
  pub all : lines ≡ ended_lines bytes
  pub whole : part ≡ []

-- the next line is answered in part
pub record AnsweredInPart (text : List ℕ → List ℕ) (line_limit file_limit : ℕ) (rest : Option (List ℕ)) (bytes : List ℕ) (lines : List (List ℕ)) (part : List ℕ) : Type 0 where
  pub line : List ℕ
  pub missing : List ℕ
  pub whole : text line ≡ part ++ missing
  pub some : 0 < length missing
  pub next : IfSome rest (λ content. IsFront (lines ++ line ∷ []) (lines_of line_limit file_limit content))

-- how it ends
abbrev pub EndsBy : Result Bool Stop → (List ℕ → List ℕ) → (List ℕ → Bool) → ℕ → ℕ → Option (List ℕ) → Option (List ℕ) → List ℕ → List (List ℕ) → List ℕ → Type 0
EndsBy (Ok all_valid) text valid line_limit file_limit rest rest_after bytes lines part =
    AllAnswered valid line_limit file_limit rest_after all_valid bytes lines part
EndsBy (Err TooLarge) text valid line_limit file_limit rest rest_after bytes lines part =
    AllBeforeFault line_limit file_limit bytes lines part
EndsBy (Err ReadFailed) text valid line_limit file_limit rest rest_after bytes lines part =
    AllEnded line_limit file_limit bytes lines part
EndsBy (Err WriteFailed) text valid line_limit file_limit rest rest_after bytes lines part =
    AnsweredInPart text line_limit file_limit rest bytes lines part
EndsBy (Err Memory) text valid line_limit file_limit rest rest_after bytes lines part = part ≡ []
