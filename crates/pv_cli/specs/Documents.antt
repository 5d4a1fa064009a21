-- What is answered to a document under a schema, by the functions that there are.
use Rattle.std.specs.Prelude.{Bool, true, false, ℕ, List, [], ◌∷◌, codes, Option}
use Rattle.pv_tree.specs.declared.Tree.{Tree}
use Rattle.pv_tree.specs.declared.Tree.TheVariants as tree
use Rattle.pv_fault.specs.Errors.{errors_text}
use Rattle.pv_fault.specs.declared.Kind.{Kind}
use Rattle.pv_fault.specs.declared.Kind.TheVariants as kind
use Rattle.pv_fault.specs.declared.Outcome.{Outcome}
use Rattle.pv_fault.specs.declared.Outcome.TheVariants.{Good, Bad}
use Rattle.pv_func.specs.Functions.{Named, Meaning}
use Rattle.pv_node.specs.declared.Node.{Node}
use Rattle.pv_notation.specs.Notation.{notation}
use Rattle.pv_json_grammar.specs.Documents.{Document, whole, bad, ends_early, reading}
use Rattle.pv_engine.specs.Meaning.{full_depth, meaning}
use Rattle.pv_cli.specs.Faults.{bad_text, end_text}
use Rattle.pv_cli.specs.Lines.{line}
use Rattle.pv_cli.specs.declared.answer.Answer.{Answer}
use Rattle.pv_cli.specs.declared.status.Status.{Status}
use Rattle.pv_cli.specs.declared.status.Status.TheVariants as status

-- a text and a line feed on standard output
abbrev pub printed : List ℕ → Status → Answer
printed text status = record { out = line text; line = []; status = status }

-- a line on standard error
abbrev pub refused : List ℕ → Status → Answer
refused text status = record { out = []; line = text; status = status }

-- the line of what is not served yet
abbrev pub not_built : Answer
not_built = refused (line (codes "not built yet")) status.NotYet

-- the printed list of one error at the document itself
abbrev pub one_error : Kind → Tree → List ℕ
one_error kind t = errors_text (record { kind = kind; loc = []; input = t } ∷ [])

-- the printed error of a document that is no JSON
abbrev pub json_errors : List ℕ → List ℕ
json_errors text = one_error (kind.JsonInvalid text) tree.Null

-- what is printed of a document, and whether it is valid
pub record Verdict : Type 0 where
  pub text : List ℕ
  pub valid : Bool

-- a document of which one error is printed: it is no JSON
abbrev pub no_json : List ℕ → Verdict
no_json text = record { text = json_errors text; valid = false }

-- the notation of a value, or the list of errors
abbrev pub of_outcome : Outcome → Verdict
of_outcome (Good v grade fields) = record { text = notation v; valid = true }
of_outcome (Bad errors) = record { text = errors_text errors; valid = false }

-- of what the input is as a document
abbrev pub of_reading : Named Meaning → Option Bool → Node → Document → Verdict
of_reading functions strict schema (whole t) =
    of_outcome
    (meaning (record { strict = strict; functions = functions }) full_depth schema t)
of_reading functions strict schema (bad at) = no_json (bad_text at)
of_reading functions strict schema ends_early = no_json end_text

-- of the bytes of a document
unfoldable pub verdict : Named Meaning → Option Bool → Node → List ℕ → Verdict
verdict functions strict schema bytes = of_reading functions strict schema (reading 128 bytes)

-- the status of a valid document, or of one that is not
abbrev pub validity : Bool → Status
validity true = status.Valid
validity false = status.Invalid

-- the answer to a document
abbrev pub of_document : Named Meaning → Option Bool → Node → List ℕ → Answer
of_document functions strict schema bytes =
    printed (verdict functions strict schema bytes).text
    (validity (verdict functions strict schema bytes).valid)
