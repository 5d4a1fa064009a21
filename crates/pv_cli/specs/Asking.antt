-- What a run takes from the words.
use Rattle.std.specs.Prelude.{ℕ, Bool, false, true, List, [], ◌∷◌, Option, Some, None}
use Rattle.pv_command.specs.declared.Asked.{Asked}
use Rattle.pv_command.specs.declared.Asked.TheVariants.{Run, Refused, NotBuilt}
use Rattle.pv_command.specs.declared.Command.{Command}
use Rattle.pv_command.specs.declared.Command.TheVariants.{Validate, Dump, Lines, Check, JsonSchema, Workload}

-- the names of the files of a command, in the order in which they are read
abbrev pub files_in : Command → List (List ℕ)
files_in (Validate strict schema document) = schema ∷ document ∷ []
files_in (Dump options schema document) = schema ∷ document ∷ []
files_in (Lines strict schema document) = schema ∷ document ∷ []
files_in (Check schema) = schema ∷ []
files_in (JsonSchema schema) = schema ∷ []
files_in (Workload seed count) = []

-- the names of the files that are asked for
abbrev pub files_of : Asked → List (List ℕ)
files_of (Run c) = files_in c
files_of (Refused at) = []
files_of NotBuilt = []

-- the place of the word that cannot stand there, where one cannot
abbrev pub place_of : Asked → Option ℕ
place_of (Run c) = None
place_of (Refused at) = Some at
place_of NotBuilt = None

-- how many bytes a file may have
abbrev pub file_limit : ℕ
file_limit = 4194304

-- how many bytes a line may have
abbrev pub line_limit : ℕ
line_limit = 1048576

-- how many bytes a file may have whose lines are answered one by one
abbrev pub lines_limit : ℕ
lines_limit = 1099511627776

-- how many bytes are given at least before more are too many
abbrev pub limit_in : Command → ℕ
limit_in (Validate strict schema document) = file_limit
limit_in (Dump options schema document) = file_limit
limit_in (Lines strict schema document) = line_limit
limit_in (Check schema) = file_limit
limit_in (JsonSchema schema) = file_limit
limit_in (Workload seed count) = file_limit

-- the same of what is asked for
abbrev pub limit_of : Asked → ℕ
limit_of (Run c) = limit_in c
limit_of (Refused at) = file_limit
limit_of NotBuilt = file_limit

-- `dump` is asked for
abbrev pub asks_dump : Asked → Bool
asks_dump (Run (Dump options schema document)) = true
asks_dump _ = false

-- `lines` is asked for
abbrev pub asks_lines : Asked → Bool
asks_lines (Run (Lines strict schema document)) = true
asks_lines _ = false
