-- The answer to words and files by the functions that there are, which the first of the steps
-- decides that refuses: the words, the schema file, its JSON, its shape, its number of nodes, its
-- building, the document file, and what the schema means for it, or for each of its lines.
use Rattle.std.specs.Prelude.{ℕ, Bool, nat_le, if◌then◌else◌, List, [], length, Option, Some, None, Result, Ok, Err}
use Rattle.std.specs.List.{list_all}
use Rattle.pv_edge.specs.Cutting.{fault_place, lines_of}
use Rattle.pv_edge.specs.Files.{file}
use Rattle.pv_line_mode.specs.OnePass.{texts}
use Rattle.pv_json_grammar.specs.Documents.{reading}
use Rattle.pv_func.specs.Functions.{Named, Meaning}
use Rattle.pv_node.specs.declared.Node.{Node}
use Rattle.pv_command.specs.declared.Asked.{Asked}
use Rattle.pv_command.specs.declared.Asked.TheVariants.{Run, Refused, NotBuilt}
use Rattle.pv_command.specs.declared.Command.{Command}
use Rattle.pv_command.specs.declared.Command.TheVariants.{Validate, Dump, Lines, Check, JsonSchema, Workload}
use Rattle.pv_command.specs.Command.{asked}
use Rattle.pv_cli.specs.Asking.{file_limit, line_limit, lines_limit}
use Rattle.pv_cli.specs.SchemaFiles.{SchemaFile, served, refused_for, not_yet, schema_file, refusal_text}
use Rattle.pv_cli.specs.Lines.{line, read_failed, too_large, schema_refused, words_refused}
use Rattle.pv_cli.specs.Documents.{refused, not_built, of_document, validity, verdict}
use Rattle.pv_cli.specs.Checks.{checked}
use Rattle.pv_cli.specs.declared.answer.Answer.{Answer}
use Rattle.pv_cli.specs.declared.status.Status.TheVariants as status

-- what is printed of each line of a file, with its line feed, and whether the line is valid
pub record LineMeaning : Type 0 where
  pub text : List ℕ → List ℕ
  pub valid : List ℕ → Bool

-- the files that a command reads, one after the other, until the answer is known
pub data Reads : Type 0 where
  answered : Answer → Reads
  -- a file of this name, of which each line is answered by itself
  by_lines : (name : List ℕ) → LineMeaning → Reads
  -- a file of this name and of at most so many bytes, and what its content leads to
  a_file : (name : List ℕ) (limit : ℕ) → (List ℕ → Reads) → Reads

-- ---- the answer to what is read

-- the answer to the content of a file, by the answer to each content
abbrev pub of_content : List ℕ → ℕ → (List ℕ → Answer) → Option (List ℕ) → Answer
of_content name limit next None = refused (read_failed name) status.ReadFault
of_content name limit next (Some bytes) =
    if nat_le (length bytes) limit then next bytes else refused (too_large name) status.TooLarge

-- what is answered after these lines of a file, by the place of what is too large in it
abbrev pub after_lines : List ℕ → LineMeaning → List (List ℕ) → Option ℕ → Answer
after_lines name m lines None =
    record { out = texts m.text lines; line = []; status = validity (list_all m.valid lines) }
after_lines name m lines (Some at) =
    record { out = texts m.text lines; line = too_large name; status = status.TooLarge }

-- the answer to the lines of a file
abbrev pub of_lines : List ℕ → LineMeaning → Option (List ℕ) → Answer
of_lines name m None = refused (read_failed name) status.ReadFault
of_lines name m (Some bytes) =
    after_lines name m (lines_of line_limit lines_limit bytes)
    (fault_place line_limit lines_limit bytes)

-- the answer where these files are held
abbrev pub answer_of : List (List ℕ × List ℕ) → Reads → Answer
answer_of held (answered a) = a
answer_of held (by_lines name m) = of_lines name m (file held name)
answer_of held (a_file name limit next) =
    of_content name limit (λ bytes. answer_of held (next bytes)) (file held name)

-- ---- what each command reads

-- the schema of a schema file, or the answer to it
abbrev pub schema_or_answer : SchemaFile → Result Node Answer
schema_or_answer (served schema) = Ok schema
schema_or_answer (refused_for r) =
    Err (refused (schema_refused (refusal_text r)) status.SchemaRefused)
schema_or_answer not_yet = Err not_built

-- what a schema leads to, or the answer
abbrev pub of_schema : (Node → Reads) → Result Node Answer → Reads
of_schema next (Ok schema) = next schema
of_schema next (Err a) = answered a

-- a schema file, and what its schema leads to
abbrev pub reads_schema : Named Meaning → List ℕ → (Node → Reads) → Reads
reads_schema functions name next =
    a_file name file_limit
    (λ bytes. of_schema next (schema_or_answer (schema_file functions (reading 128 bytes))))

-- a document file under a schema
abbrev pub reads_document : Named Meaning → Option Bool → List ℕ → Node → Reads
reads_document functions strict name schema =
    a_file name file_limit (λ bytes. answered (of_document functions strict schema bytes))

-- what is printed of a line under a schema
abbrev pub line_meaning : Named Meaning → Option Bool → Node → LineMeaning
line_meaning functions strict schema = record {
  text = λ bytes. line (verdict functions strict schema bytes).text;
  valid = λ bytes. (verdict functions strict schema bytes).valid;
}

-- a document file of which each line is a document under a schema
abbrev pub reads_lines : Named Meaning → Option Bool → List ℕ → Node → Reads
reads_lines functions strict name schema = by_lines name (line_meaning functions strict schema)

-- what each command reads
abbrev pub reads_of : Named Meaning → Command → Reads
reads_of functions (Validate strict schema document) =
    reads_schema functions schema (reads_document functions strict document)
reads_of functions (Dump options schema document) = answered not_built
reads_of functions (Lines strict schema document) =
    reads_schema functions schema (reads_lines functions strict document)
reads_of functions (Check schema) = reads_schema functions schema (λ n. answered (checked n))
reads_of functions (JsonSchema schema) = answered not_built
reads_of functions (Workload seed count) = answered not_built

-- what is read by what the words ask for
abbrev pub reads_for : Named Meaning → Asked → Reads
reads_for functions (Run c) = reads_of functions c
reads_for functions (Refused at) = answered (refused (words_refused at) status.WordsRefused)
reads_for functions NotBuilt = answered not_built

-- the answer to the words
unfoldable pub answer : List (List ℕ) → Named Meaning → List (List ℕ × List ℕ) → Answer
answer words functions held = answer_of held (reads_for functions (asked words))
