-- The code's table of commands and options, and what its walk over the words answers.
use Rattle.std.specs.Prelude.{◌≡◌, ℕ, ◌+◌, Bool, false, true, not, ◌&&◌, if◌then◌else◌, List, [], ◌∷◌, ◌++◌, drop, get_or, bytes_eq, Option, Some, None, is_some, Result, Ok, Err}
use Rattle.pv_command.specs.Options.{Effect, flag, Row, row, strictness}
use Rattle.pv_command.specs.Operands.{Operands, whole, a_file, a_file_beside, is_input}
use Rattle.pv_command.specs.Command as spec
use Rattle.pv_command.specs.Command.{Parsed, Form, form, CommandRow, options_from, operands_from, asked_from}
use Rattle.pv_text.specs.declared.Memory.{Memory}
use Rattle.pv_command.specs.declared.options.Options.{Options}
use Rattle.pv_command.specs.declared.asked.Asked.{Asked}
use Rattle.pv_command.specs.declared.asked.Asked.TheVariants.{Run, Refused, NotBuilt}
use Rattle.pv_command.specs.declared.options.Setting.{Setting}
use Rattle.pv_command.specs.declared.options.Setting.TheVariants.{Strict}
use Rattle.pv_command.specs.declared.asked.Command.{Command}
use Rattle.pv_command.specs.declared.asked.Command.TheVariants as command
use Rattle.pv_command.specs.declared.table.OptionEntry.{OptionEntry}
use Rattle.pv_command.specs.declared.table.Operand.{Operand}
use Rattle.pv_command.specs.declared.table.Operand.TheVariants.{File, OtherFile}
use Rattle.pv_command.specs.declared.table.OptionSet.{OptionSet}
use Rattle.pv_command.specs.declared.table.OptionSet.TheVariants.{Empty, Strictness}
use Rattle.pv_command.specs.declared.table.OperandList.{OperandList}
use Rattle.pv_command.specs.declared.table.OperandList.TheVariants.{OneSchema, SchemaAndDocument}
use Rattle.pv_command.specs.declared.table.Made.{Made}
use Rattle.pv_command.specs.declared.table.Made.TheVariants.{Validate, Lines, Check}
use Rattle.pv_command.specs.declared.table.Takes.{Takes}
use Rattle.pv_command.specs.declared.table.CommandEntry.{CommandEntry}

-- ---- the table

-- behind these options one that asks for this can no longer stand
abbrev pub bars : Setting → Options → Bool
bars (Strict strict) o = is_some o.strict

-- the options with one that asks for this
abbrev pub with_setting : Setting → Options → Options
with_setting (Strict strict) o = record o { strict = Some strict }

-- the options of the table as rows
abbrev pub rows_of : List OptionEntry → List Row
rows_of [] = []
rows_of (e ∷ es) =
    row e.name.now (λ o. bars e.asks o) (λ o. flag (with_setting e.asks o)) ∷ rows_of es

-- the options of a set
abbrev pub options_of : OptionSet → List Row
options_of Empty = []
options_of Strictness = strictness

-- the kinds of the operands of a list
abbrev pub kinds_of : OperandList → List Operand
kinds_of OneSchema = File ∷ []
kinds_of SchemaAndDocument = File ∷ OtherFile ∷ []

-- the word at a place, or none
abbrev pub word_at : ℕ → List (List ℕ) → List ℕ
word_at n words = get_or words n []

-- the command that is made of the options and the operands
abbrev pub made_of : Made → Options → List (List ℕ) → Command
made_of Validate o words = command.Validate o.strict (word_at 0 words) (word_at 1 words)
made_of Lines o words = command.Lines o.strict (word_at 0 words) (word_at 1 words)
made_of Check o words = command.Check (word_at 0 words)

-- operands of these kinds behind others, and the command that is made of all of them
abbrev pub operands_by : List Operand → List (List ℕ) → (List (List ℕ) → Command) → Operands
operands_by [] before make = whole (make before)
operands_by (File ∷ kinds) before make =
    a_file (λ word. operands_by kinds (before ++ word ∷ []) make)
operands_by (OtherFile ∷ kinds) before make =
    a_file_beside (word_at 0 before) (λ word. operands_by kinds (before ++ word ∷ []) make)

-- what stands behind the name of a command that is built
abbrev pub form_of : Takes → Form
form_of t =
    form (options_of t.options) (λ o. operands_by (kinds_of t.operands) [] (made_of t.made o))

-- what stands behind a name is that of the row, where its command is built
abbrev pub IsBuilt : Option Takes → CommandRow → Type 0
IsBuilt None r = r.is_built ≡ false
IsBuilt (Some t) r = r ≡ spec.built r.name (form_of t)

-- an entry stands for a row
pub record IsEntry (e : CommandEntry) (r : CommandRow) : Type 0 where
  pub name : e.name.now ≡ r.name
  pub built : IsBuilt e.takes r

-- entries stand for rows, in their order
abbrev pub AreEntries : List CommandEntry → List CommandRow → Type 0
AreEntries [] [] = Unit {0}
AreEntries [] (r ∷ rs) = ⊥
AreEntries (e ∷ es) [] = ⊥
AreEntries (e ∷ es) (r ∷ rs) = IsEntry e r × AreEntries es rs

-- an entry was found for the row that was, or none for none
abbrev pub IsFound : Option CommandEntry → Option CommandRow → Type 0
IsFound None None = Unit {0}
IsFound None (Some r) = ⊥
IsFound (Some e) None = ⊥
IsFound (Some e) (Some r) = IsEntry e r

-- ---- the walk

-- what the option of this name asks for, where the table has it
abbrev pub setting_named : List OptionEntry → List ℕ → Option Setting
setting_named [] word = None
setting_named (e ∷ es) word =
    if bytes_eq word e.name.now then Some e.asks else setting_named es word

-- whether a word can stand as an operand of this kind behind others
abbrev pub fits : Operand → List (List ℕ) → List ℕ → Bool
fits File before word = true
fits OtherFile before word = not (is_input (word_at 0 before) && is_input word)

-- the options are those that the option made of the others, or it cannot stand
abbrev pub AddsOption : Bool → Option Effect → Options → Type 0
AddsOption true effect new = effect ≡ Some (flag new)
AddsOption false effect new = effect ≡ None

-- what stands behind the options of a form, of which there are so many, or how many stand before
-- the word that cannot
abbrev pub ReadsOptions : Form → Options → Options → List (List ℕ) → Result ℕ ℕ → Type 0
ReadsOptions f old new words (Ok n) =
    asked_from (options_from f old) 2 words
    ≡ asked_from (operands_from (f.operands new)) (2 + n) (drop n words)
ReadsOptions f old new words (Err n) = asked_from (options_from f old) 2 words ≡ Err (2 + n)

-- the operands are all there, or so many stand before the word that cannot or is missing
abbrev pub ReadsOperands : List Operand → List (List ℕ) → Result (Unit {0}) ℕ → Type 0
ReadsOperands kinds words (Ok u) =
    (make : List (List ℕ) → Command) (place : ℕ) →
    asked_from (operands_from (operands_by kinds [] make)) place words ≡ Ok (make words)
ReadsOperands kinds words (Err n) =
    (make : List (List ℕ) → Command) (place : ℕ) →
    asked_from (operands_from (operands_by kinds [] make)) place words ≡ Err (place + n)

-- the answer is that the command is not built
abbrev pub is_not_built : Result Asked Memory → Bool
is_not_built (Ok (Run c)) = false
is_not_built (Ok (Refused at)) = false
is_not_built (Ok NotBuilt) = true
is_not_built (Err e) = false
