-- What each step of a run answers.
use Rattle.std.specs.Prelude.{◌≡◌, ◌≢◌, ℕ, ◌+◌, ◌<◌, ◌≤◌, ◌⊎◌, ◌↔◌, true, false, List, [], ◌∷◌, length, Option, Some, None, Result, Ok, Err, IsSome}
use Rattle.std.specs.Io.KnownBytes.{Appends}
use Rattle.pv_edge.specs.Files.{file}
use Rattle.pv_edge.specs.Rising.{Rose}
use Rattle.pv_edge.specs.Sending.{SentInPart}
use Rattle.pv_edge.specs.declared.LoadFault.{LoadFault}
use Rattle.pv_edge.specs.declared.LoadFault.TheVariants as fault
use Rattle.pv_func.specs.Functions.{Named, Meaning}
use Rattle.pv_json_grammar.specs.Documents.{reading}
use Rattle.pv_line_mode.specs.declared.Stop.{Stop}
use Rattle.pv_line_mode.specs.declared.Stop.TheVariants as stop
use Rattle.pv_node.specs.declared.Node.{Node}
use Rattle.pv_command.specs.declared.Asked.{Asked}
use Rattle.pv_command.specs.declared.Asked.TheVariants.{NotBuilt}
use Rattle.pv_cli.specs.Answering.{Reads, answer_of, reads_schema, schema_or_answer}
use Rattle.pv_cli.specs.Asking.{asks_lines, file_limit, files_of, limit_of, line_limit, place_of}
use Rattle.pv_cli.specs.Documents.{refused}
use Rattle.pv_cli.specs.Lines.{IsLineOf, read_failed, too_large}
use Rattle.pv_cli.specs.Running.{Held, Replies, StopsAt, WhereTold, is_early, is_printed, is_silent, read_size, size_of}
use Rattle.pv_cli.specs.SchemaFiles.{schema_file}
use Rattle.pv_cli.specs.declared.answer.Answer.{Answer}
use Rattle.pv_cli.specs.declared.ending.Ending.{Ending}
use Rattle.pv_cli.specs.declared.ending.NoAnswer.{NoAnswer}
use Rattle.pv_cli.specs.declared.ending.NoAnswer.TheVariants.{Memory, WriteFailed}
use Rattle.pv_cli.specs.declared.status.Status.{Status}
use Rattle.pv_cli.specs.declared.status.Status.TheVariants as status
use Rattle.pv_cli.specs.declared.schema.SchemaStep.{SchemaStep}
use Rattle.pv_cli.specs.declared.schema.SchemaStep.TheVariants.{Served, Answered}

-- a schema or an answer, as the program holds it
abbrev pub shown : SchemaStep → Result Node Answer
shown (Served plan) = Ok plan
shown (Answered a) = Err a

-- the answer to a file that was not loaded; want of memory has none
abbrev pub IsRefusal : List ℕ → LoadFault → Answer → Type 0
IsRefusal name fault.Failed a = a ≡ refused (read_failed name) status.ReadFault
IsRefusal name fault.TooLarge a = a ≡ refused (too_large name) status.TooLarge
IsRefusal name fault.Memory a = ⊥

-- the file of this name is held, and is a schema file of this schema
pub record IsSchemaFile (files : List (List ℕ × List ℕ)) (functions : Named Meaning) (name : List ℕ) (schema : Node) : Type 0 where
  pub bytes : List ℕ
  pub content : file files name ≡ Some bytes
  pub small : length bytes ≤ file_limit
  pub serves : schema_or_answer (schema_file functions (reading 128 bytes)) ≡ Ok schema

-- this is told on standard error, and the status with which the run ends
abbrev pub IsEndOf : Answer → Ending → Type 0
IsEndOf a e = (e.line ≡ a.line) × (e.status ≡ a.status)

-- The files decide what was printed and how the run ends, or it ends by a read fault that came
-- with the rise of the count of faults from `before` to `now`. Where it is not told what is held,
-- a read fault comes only so.
abbrev pub Settles : Held → (List (List ℕ × List ℕ) → Answer) → ℕ → ℕ → Option (List ℕ) → Option (List ℕ) → Ending → Type 0
Settles None decided before now took took_after e = e.status ≡ status.ReadFault → Rose before now
Settles (Some files) decided before now took took_after e =
    (IsEndOf (decided files) e × Appends took took_after (decided files).out)
    ⊎ ((e.status ≡ status.ReadFault) × Rose before now)

-- how a run ends when what it answers is on standard output
pub record Ended (asked : Asked) (held : Held) (decided : List (List ℕ × List ℕ) → Answer) (faults faults_now given given_now : ℕ) (took took_now : Option (List ℕ)) (e : Ending) : Type 0 where
  pub settled : Settles held decided faults faults_now took took_now e
  pub line : IsLineOf asked e.status e.line
  pub silent : is_silent asked e.status ≡ true → Appends took took_now []
  pub printed : (e.status ≢ status.WriteFault) × (e.status ≢ status.Memory)
  pub large : e.status ≡ status.TooLarge → given + limit_of asked + 1 ≤ given_now
  pub stops : e.status ≡ status.ReadFault → WhereTold held (λ files. StopsAt files (files_of asked) given given_now e.line)
  pub whole : is_printed e.status ≡ true → WhereTold held (λ files. given_now ≡ given + read_size files (files_of asked))
  pub refused : (e.status ≡ status.WordsRefused) ↔ IsSome (place_of asked)
  pub unbuilt : asked ≡ NotBuilt → e.status ≡ status.NotYet
  pub not_yet : e.status ≡ status.NotYet → (asked ≡ NotBuilt) ⊎ (0 < length (files_of asked))

-- How the lines of a file end, of which all are on standard output: `all` are the names of the
-- files of the command, of which the last, from which the counts tell, are `names`.
pub record LinesEnded (all names : List (List ℕ)) (held : Held) (decided : List (List ℕ × List ℕ) → Answer) (faults faults_now given given_now : ℕ) (took took_now : Option (List ℕ)) (e : Ending) : Type 0 where
  pub settled : Settles held decided faults faults_now took took_now e
  pub line : (asked : Asked) → files_of asked ≡ all → IsLineOf asked e.status e.line
  pub early : is_early e.status ≡ true → Appends took took_now []
  pub printed : (e.status ≢ status.WriteFault) × (e.status ≢ status.Memory)
  pub worded : e.status ≢ status.WordsRefused
  pub large : e.status ≡ status.TooLarge → given + line_limit + 1 ≤ given_now
  pub stops : e.status ≡ status.ReadFault → WhereTold held (λ files. StopsAt files names given given_now e.line)
  pub whole : is_printed e.status ≡ true → WhereTold held (λ files. given_now ≡ given + read_size files names)

-- how the lines of a file end by what stopped them
abbrev pub IsEndBy : List ℕ → Stop → Result Ending NoAnswer → Type 0
IsEndBy name stop.ReadFailed (Ok e) = IsEndOf (refused (read_failed name) status.ReadFault) e
IsEndBy name stop.TooLarge (Ok e) = IsEndOf (refused (too_large name) status.TooLarge) e
IsEndBy name stop.Memory (Ok e) = ⊥
IsEndBy name stop.WriteFailed (Ok e) = ⊥
IsEndBy name stop.WriteFailed (Err why) = why ≡ WriteFailed
IsEndBy name _ (Err why) = why ≡ Memory

-- the answer to a schema file that decides it, as far as that is known before what follows
pub record SchemaAnswers (held : Held) (functions : Named Meaning) (name : List ℕ) (faults faults_now given given_now : ℕ) (a : Answer) : Type 0 where
  pub reply : (next : Node → Reads) → Replies held (λ files. answer_of files (reads_schema functions name next)) faults faults_now a
  pub line : (asked : Asked) (names : List (List ℕ)) → files_of asked ≡ name ∷ names → IsLineOf asked a.status a.line
  pub silent : a.out ≡ []
  pub unprinted : is_printed a.status ≢ true
  pub worded : a.status ≢ status.WordsRefused
  pub answers : (a.status ≢ status.WriteFault) × (a.status ≢ status.Memory)
  pub large : a.status ≡ status.TooLarge → given_now ≡ given + file_limit + 1
  pub stops : (names : List (List ℕ)) → a.status ≡ status.ReadFault → WhereTold held (λ files. StopsAt files (name ∷ names) given given_now a.line)

-- a schema file leads to its schema, or to an answer
abbrev pub Opens : SchemaStep → Held → Named Meaning → List ℕ → ℕ → ℕ → ℕ → ℕ → Type 0
Opens (Served plan) held functions name faults faults_now given given_now =
    WhereTold held (λ files. IsSchemaFile files functions name plan × (given_now ≡ given + size_of files name))
Opens (Answered a) held functions name faults faults_now given given_now =
    SchemaAnswers held functions name faults faults_now given given_now a

-- why not all of the answer is on standard output
pub record Unended (asked : Asked) (held : Held) (decided : List (List ℕ × List ℕ) → Answer) (faults faults_now : ℕ) (took took_now : Option (List ℕ)) (why : NoAnswer) : Type 0 where
  pub worded : why ≡ WriteFailed → place_of asked ≡ None
  pub built : why ≡ WriteFailed → asked ≢ NotBuilt
  pub rose : why ≡ WriteFailed → Rose faults faults_now
  pub part : why ≡ WriteFailed → WhereTold held (λ files. SentInPart took took_now (decided files).out)
  pub none : why ≡ Memory → asks_lines asked ≡ false → Appends took took_now []

-- the status of either
abbrev pub status_of : Result Ending NoAnswer → Status
status_of (Ok e) = e.status
status_of (Err Memory) = status.Memory
status_of (Err WriteFailed) = status.WriteFault
