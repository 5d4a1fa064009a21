-- What `lines` has printed when it ends, in whatever way.
use Rattle.std.specs.Prelude.{◌≡◌, ◌≢◌, ℕ, ◌-◌, ◌≤◌, ◌+◌, nat_le, if◌then◌else◌, List, [], ◌∷◌, ◌++◌, length, take, Option, Some, None}
use Rattle.std.specs.Io.KnownBytes.{Appends}
use Rattle.pv_edge.specs.Cutting.{ended_lines, lines_of}
use Rattle.pv_edge.specs.Files.{file}
use Rattle.pv_line_mode.specs.OnePass.{IsFront, size_of, texts}
use Rattle.pv_cli.specs.Answering.{LineMeaning, Reads, answered, a_file, by_lines}
use Rattle.pv_cli.specs.Asking.{line_limit, lines_limit}
use Rattle.pv_cli.specs.Running as running
use Rattle.pv_cli.specs.declared.status.Status.{Status}
use Rattle.pv_cli.specs.declared.status.Status.TheVariants as status

-- a file whose lines are answered one by one, and what is printed of them
pub record LinedFile : Type 0 where
  pub content : List ℕ
  pub meaning : LineMeaning

abbrev pub lined : LineMeaning → Option (List ℕ) → Option LinedFile
lined m None = None
lined m (Some bytes) = Some (record { content = bytes; meaning = m })

-- of a file that leads to it, where it is held and not too large
abbrev pub lined_after : ℕ → (List ℕ → Option LinedFile) → Option (List ℕ) → Option LinedFile
lined_after limit next None = None
lined_after limit next (Some bytes) = if nat_le (length bytes) limit then next bytes else None

-- the file whose lines are answered, where these files lead to one that is held
abbrev pub lined_file : List (List ℕ × List ℕ) → Reads → Option LinedFile
lined_file held (answered a) = None
lined_file held (by_lines name m) = lined m (file held name)
lined_file held (a_file name limit next) =
    lined_after limit (λ bytes. lined_file held (next bytes)) (file held name)

-- These lines of the file, the first, were answered whole, and a part of the next answer was put,
-- where a write failed. Of the bytes that were given no more than a line and one read are not
-- answered. Where a read failed, all lines were answered that end in the bytes given.
pub record PrintedLines (took took_after : Option (List ℕ)) (given : ℕ) (ended : Status) (f : LinedFile) : Type 0 where
  pub lines : List (List ℕ)
  pub part : List ℕ
  pub first : IsFront lines (lines_of line_limit lines_limit f.content)
  pub grew : Appends took took_after (texts f.meaning.text lines ++ part)
  pub delay : given ≤ size_of lines + line_limit + 4096
  pub whole : ended ≢ status.WriteFault → part ≡ []
  pub before_fault : ended ≡ status.ReadFault → lines ≡ ended_lines (take given f.content)

-- what was printed where so many bytes of the file were given
abbrev pub PrintedOf : Option (List ℕ) → Option (List ℕ) → ℕ → Status → Option LinedFile → Type 0
PrintedOf took took_after given ended None = Appends took took_after []
PrintedOf took took_after given ended (Some f) = PrintedLines took took_after given ended f

-- how many bytes the first of these files has
abbrev pub first_size : List (List ℕ × List ℕ) → List (List ℕ) → ℕ
first_size files [] = 0
first_size files (name ∷ names) = running.size_of files name

-- The lines of a file were answered one by one. The files of these names were read in this order,
-- and the count of given bytes went from `before` to `now`.
abbrev pub Passes : List (List ℕ × List ℕ) → Reads → List (List ℕ) → ℕ → ℕ → Option (List ℕ) → Option (List ℕ) → Status → Type 0
Passes files reads names before now took took_after ended =
    PrintedOf took took_after (now - before - first_size files names) ended (lined_file files reads)
