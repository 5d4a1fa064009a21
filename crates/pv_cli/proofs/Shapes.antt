-- What an answer to a file's content has on its streams.
use Rattle.std.proofs.Common.{◌≡◌, ℕ, Bool, true, false, List, [], length, refl, sym, subst, Option}
use Rattle.std.specs.Prelude.{◌≢◌, Err}
use Rattle.pv_func.specs.Functions.{Named, Meaning}
use Rattle.pv_node.specs.declared.Node.{Node}
use Rattle.pv_node.specs.Preorder.{node_count}
use Rattle.pv_references.specs.Names.{names_of}
use Rattle.pv_references.specs.Cycles.{chain}
use Rattle.pv_command.specs.declared.Asked.{Asked}
use Rattle.pv_cli.specs.SchemaFiles.{SchemaRefusal, SchemaFile, served, refused_for, not_yet, refusal_text}
use Rattle.pv_cli.specs.Answering.{schema_or_answer}
use Rattle.pv_cli.specs.Checks.{counts_text, checked}
use Rattle.pv_cli.specs.Lines.{schema_refused, IsLineOf, IsOutOf}
use Rattle.pv_cli.specs.Running.{is_printed, is_unprinted}
use Rattle.pv_cli.specs.Documents.{refused, printed, not_built, of_document, validity, verdict}
use Rattle.pv_cli.specs.declared.answer.Answer.{Answer}
use Rattle.pv_cli.specs.declared.status.Status.{Status}
use Rattle.pv_cli.specs.declared.status.Status.TheVariants as status

-- its line and its output are those of its status, and it tells of no file
pub record IsSettled (a : Answer) : Type 0 where
  pub line : (asked : Asked) → IsLineOf asked a.status a.line
  pub out : IsOutOf a.status a.out
  pub read : a.status ≡ status.ReadFault → ⊥
  pub small : a.status ≡ status.TooLarge → ⊥
  pub worded : a.status ≡ status.WordsRefused → ⊥

valid : (text : List ℕ) → IsSettled (printed text status.Valid)
valid text = record { line = λ asked. refl; out = tt; read = λ e. cc; small = λ e. cc; worded = λ e. cc }

invalid : (text : List ℕ) → IsSettled (printed text status.Invalid)
invalid text = record { line = λ asked. refl; out = tt; read = λ e. cc; small = λ e. cc; worded = λ e. cc }

pub unbuilt : IsSettled not_built
unbuilt = record { line = λ asked. refl; out = refl; read = λ e. cc; small = λ e. cc; worded = λ e. cc }

by_validity : (text : List ℕ) (v : Bool) → IsSettled (printed text (validity v))
by_validity text true = valid text
by_validity text false = invalid text

pub document_settled : (functions : Named Meaning) (strict : Option Bool) (n : Node) (bs : List ℕ) → IsSettled (of_document functions strict n bs)
document_settled functions strict n bs = by_validity (verdict functions strict n bs).text (verdict functions strict n bs).valid

pub checked_settled : (n : Node) → IsSettled (checked n)
checked_settled n = valid (counts_text (node_count n) (length (names_of n)) (chain n))

-- ---- a schema file that decides the answer

refused_schema : (r : SchemaRefusal) → IsSettled (refused (schema_refused (refusal_text r)) status.SchemaRefused)
refused_schema r = record { line = λ asked. (r, refl); out = refl; read = λ e. cc; small = λ e. cc; worded = λ e. cc }

-- nothing is printed
pub record IsUnprinted (a : Answer) : Type 0 where
  pub settled : IsSettled a
  pub none : a.out ≡ []
  pub silent : is_printed a.status ≡ true → ⊥

pub schema_unprinted : (f : SchemaFile) (a : Answer) → schema_or_answer f ≡ Err a → IsUnprinted a
schema_unprinted (served n) a e = cc
schema_unprinted (refused_for r) a e =
    let is : refused (schema_refused (refusal_text r)) status.SchemaRefused ≡ a = cc in
    subst (λ x. IsUnprinted x) is (record { settled = refused_schema r; none = refl; silent = λ t. cc })
schema_unprinted not_yet a e =
    let is : not_built ≡ a = cc in
    subst (λ x. IsUnprinted x) is (record { settled = unbuilt; none = refl; silent = λ t. cc })

-- an answer is none of the two statuses that nothing answers
pub answer_told : (s : Status) (out : List ℕ) → IsOutOf s out → (s ≢ status.WriteFault) × (s ≢ status.Memory)
answer_told s out o = (λ e. absurd (never_write (subst (λ x. IsOutOf x out) e o)), λ e. absurd (never_memory (subst (λ x. IsOutOf x out) e o)))
  where
    never_write : IsOutOf status.WriteFault out → ⊥
    never_write x = x

    never_memory : IsOutOf status.Memory out → ⊥
    never_memory x = x

-- nothing is printed with a status that prints nothing
pub none_out : (s : Status) (out : List ℕ) → IsOutOf s out → is_unprinted s ≡ true → out ≡ []
none_out status.Valid out o e = cc
none_out status.Invalid out o e = cc
none_out status.WordsRefused out o e = o
none_out status.SchemaRefused out o e = o
none_out status.ReadFault out o e = o
none_out status.TooLarge out o e = o
none_out status.WriteFault out o e = cc
none_out status.Memory out o e = absurd o
none_out status.DumpRefused out o e = o
none_out status.NotYet out o e = o
