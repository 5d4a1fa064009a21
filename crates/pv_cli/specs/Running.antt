-- What a run leaves behind.
use Rattle.std.specs.Prelude.{◌≡◌, ℕ, ◌<◌, ◌≤◌, ◌⊎◌, ◌+◌, Bool, true, false, if◌then◌else◌, List, [], ◌∷◌, length, Option, Some, None, unwrap_or, IsSome}
use Rattle.std.specs.Io.KnownBytes.{Appends}
use Rattle.pv_edge.specs.Files.{file}
use Rattle.pv_edge.specs.Rising.{Rose}
use Rattle.pv_edge.specs.Sending.{SentInPart}
use Rattle.pv_command.specs.declared.Asked.{Asked}
use Rattle.pv_cli.specs.Asking.{asks_lines}
use Rattle.pv_cli.specs.Lines.{read_failed}
use Rattle.pv_cli.specs.declared.answer.Answer.{Answer}
use Rattle.pv_cli.specs.declared.status.Status.{Status}
use Rattle.pv_cli.specs.declared.status.Status.TheVariants.{Valid, Invalid, WordsRefused, SchemaRefused, ReadFault, TooLarge, WriteFault, Memory, DumpRefused, NotYet}

-- the files that are held, where that is told
abbrev pub Held : Type 0
Held = Option (List (List ℕ × List ℕ))

-- a fact of what is held, where that is told
abbrev pub WhereTold : Held → (List (List ℕ × List ℕ) → Type 0) → Type 0
WhereTold None P = Unit {0}
WhereTold (Some files) P = P files

-- what is held is told, and a fact of it
abbrev pub IsTold : Held → (List (List ℕ × List ℕ) → Type 0) → Type 0
IsTold None P = ⊥
IsTold (Some files) P = P files

-- The answer is the one that the files decide, or a read fault that came with the rise of the
-- count of faults from `before` to `now`. Where it is not told what is held, a read fault comes
-- only so.
abbrev pub Replies : Held → (List (List ℕ × List ℕ) → Answer) → ℕ → ℕ → Answer → Type 0
Replies None decided before now a = a.status ≡ ReadFault → Rose before now
Replies (Some files) decided before now a =
    (a ≡ decided files) ⊎ ((a.status ≡ ReadFault) × Rose before now)

-- the statuses that words and files decide by themselves
abbrev pub is_decided : Status → Bool
is_decided Valid = true
is_decided Invalid = true
is_decided WordsRefused = true
is_decided SchemaRefused = true
is_decided ReadFault = false
is_decided TooLarge = true
is_decided WriteFault = false
is_decided Memory = false
is_decided DumpRefused = true
is_decided NotYet = true

-- how many bytes the file of this name has
abbrev pub size_of : List (List ℕ × List ℕ) → List ℕ → ℕ
size_of files name = length (unwrap_or (file files name) [])

-- how many bytes the files of these names have together
abbrev pub read_size : List (List ℕ × List ℕ) → List (List ℕ) → ℕ
read_size files [] = 0
read_size files (name ∷ names) = size_of files name + read_size files names

-- A line about the file at which reading failed, of those that are read in this order, where the
-- count of given bytes went from `before` to `now`: the files before it are held and were given
-- whole, and of it no more was given than it has.
abbrev pub StopsAt : List (List ℕ × List ℕ) → List (List ℕ) → ℕ → ℕ → List ℕ → Type 0
StopsAt files [] before now text = ⊥
StopsAt files (name ∷ names) before now text =
    ((text ≡ read_failed name) × (now ≤ before + size_of files name))
    ⊎ (IsSome (file files name) × (before + size_of files name ≤ now) ×
    StopsAt files names (before + size_of files name) now text)

-- a value or a list of errors was printed
abbrev pub is_printed : Status → Bool
is_printed Valid = true
is_printed Invalid = true
is_printed _ = false

-- a text was put whole, or in part while the count of faults rose from `before` to `now`
abbrev pub Puts : Option (List ℕ) → Option (List ℕ) → ℕ → ℕ → List ℕ → Type 0
Puts old new before now text = Appends old new text ⊎ ((before < now) × SentInPart old new text)

-- the statuses with which standard output takes nothing
abbrev pub is_unprinted : Status → Bool
is_unprinted Valid = false
is_unprinted Invalid = false
is_unprinted WordsRefused = true
is_unprinted SchemaRefused = true
is_unprinted ReadFault = true
is_unprinted TooLarge = true
is_unprinted WriteFault = false
is_unprinted Memory = true
is_unprinted DumpRefused = true
is_unprinted NotYet = true

-- the statuses that are known before a line of `lines` is read
abbrev pub is_early : Status → Bool
is_early WordsRefused = true
is_early SchemaRefused = true
is_early NotYet = true
is_early _ = false

-- with this status standard output takes nothing; in `lines` it may have taken lines before
abbrev pub is_silent : Asked → Status → Bool
is_silent asked status =
    if asks_lines asked then is_early status else is_unprinted status
