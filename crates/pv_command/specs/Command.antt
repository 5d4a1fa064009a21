-- What the words ask for.
use Rattle.std.specs.Prelude.{ℕ, ◌+◌, Bool, true, false, if◌then◌else◌, List, [], ◌∷◌, ◌++◌, codes, Option, Some, None, Result, Ok, Err, bytes_eq}
use Rattle.std.specs.List.{find}
use Rattle.std.specs.Option.{option_map}
use Rattle.pv_tree.specs.declared.Tree.{Tree}
use Rattle.pv_pick.specs.Picks.{pick_of}
use Rattle.pv_command.specs.declared.options.Options.{Options}
use Rattle.pv_command.specs.declared.asked.Asked.{Asked}
use Rattle.pv_command.specs.declared.asked.Asked.TheVariants.{Run, Refused, NotBuilt}
use Rattle.pv_command.specs.declared.asked.Command.{Command}
use Rattle.pv_command.specs.declared.asked.Command.TheVariants.{Validate, Dump, Lines, Check, JsonSchema, Workload}
use Rattle.pv_command.specs.Options.{Effect, flag, with_pick, Row, is_option, no_options, strictness, serialisation, effect_of}
use Rattle.pv_command.specs.Operands.{Operands, behind, completed, schema_and_document, one_schema, seed_and_count}

-- what stands behind a command's name: its options, and its operands by what the options ask for
pub record Form : Type 0 where
  pub options : List Row
  pub operands : Options → Operands

-- a form of these parts
abbrev pub form : List Row → (Options → Operands) → Form
form options operands = record { options = options; operands = operands }

-- behind `validate`
abbrev pub validate_form : Form
validate_form = form strictness (λ o. schema_and_document (Validate o.strict))

-- behind `dump`
abbrev pub dump_form : Form
dump_form = form (strictness ++ serialisation) (λ o. schema_and_document (Dump o))

-- behind `check`
abbrev pub check_form : Form
check_form = form [] (λ o. one_schema Check)

-- behind `lines`
abbrev pub lines_form : Form
lines_form = form strictness (λ o. schema_and_document (Lines o.strict))

-- a command's name, what stands behind it, and whether the program has it so far
pub record CommandRow : Type 0 where
  pub name : List ℕ
  pub form : Form
  pub is_built : Bool

-- a command that the program has
abbrev pub built : List ℕ → Form → CommandRow
built name form = record { name = name; form = form; is_built = true }

-- a command that is not built yet
abbrev pub unbuilt : List ℕ → Form → CommandRow
unbuilt name form = record { name = name; form = form; is_built = false }

-- all commands
abbrev pub commands : List CommandRow
commands =
    built (codes "validate") validate_form ∷
    unbuilt (codes "dump") dump_form ∷
    built (codes "lines") lines_form ∷
    built (codes "check") check_form ∷
    unbuilt (codes "jsonschema") (form [] (λ o. one_schema JsonSchema)) ∷
    unbuilt (codes "workload") (form [] (λ o. seed_and_count Workload)) ∷ []

-- the command of this name
abbrev pub command_named : List ℕ → Option CommandRow
command_named word = find (λ r. bytes_eq word r.name) commands

-- what stands behind this name
abbrev pub form_named : List ℕ → Option Form
form_named word = option_map (λ (r : CommandRow). r.form) (command_named word)

-- a command of this kind is one that is not built yet
abbrev pub is_unbuilt_row : Option CommandRow → Bool
is_unbuilt_row None = false
is_unbuilt_row (Some r) = if r.is_built then false else true

-- the first word is a command that is not built yet
abbrev pub begins_unbuilt : List (List ℕ) → Bool
begins_unbuilt [] = false
begins_unbuilt (name ∷ words) = is_unbuilt_row (command_named name)

-- what may follow the words so far
pub data State : Type 0 where
  -- the command's name
  a_name : State
  -- an option behind these, or the first operand
  options_from : Form → Options → State
  -- the pick of an option
  a_pick : Form → (Tree → Options) → State
  -- an operand
  operands_from : Operands → State

-- behind a command's name
abbrev pub behind_name : Option Form → Option State
behind_name None = None
behind_name (Some f) = Some (options_from f no_options)

-- behind an option, by what it makes of those before it
abbrev pub behind_option : Form → Option Effect → Option State
behind_option f None = None
behind_option f (Some (flag o)) = Some (options_from f o)
behind_option f (Some (with_pick next)) = Some (a_pick f next)

-- behind the pick of an option
abbrev pub behind_pick : Form → (Tree → Options) → Option Tree → Option State
behind_pick f next None = None
behind_pick f next (Some t) = Some (options_from f (next t))

-- behind an operand
abbrev pub behind_operand : Option Operands → Option State
behind_operand None = None
behind_operand (Some operands) = Some (operands_from operands)

-- what may follow when one more word stands there, or `None` where it cannot
unfoldable pub step : State → List ℕ → Option State
step a_name word = behind_name (form_named word)
step (options_from f o) word =
    if is_option word then behind_option f (effect_of f.options o word)
    else behind_operand (behind (f.operands o) word)
step (a_pick f next) word = behind_pick f next (pick_of word)
step (operands_from operands) word = behind_operand (behind operands word)

-- the command, where no word is missing
abbrev pub finished : State → Option Command
finished a_name = None
finished (options_from f o) = completed (f.operands o)
finished (a_pick f next) = None
finished (operands_from operands) = completed operands

-- a command, or the place of the first word that cannot stand there or is missing
abbrev pub Parsed : Type 0
Parsed = Result Command ℕ

-- behind the last word, of which this is the next place
abbrev pub at_end : ℕ → Option Command → Parsed
at_end place None = Err place
at_end place (Some c) = Ok c

-- at a word, by what may follow it
abbrev pub onward : ℕ → (State → Parsed) → Option State → Parsed
onward place next None = Err place
onward place next (Some s) = next s

-- what the words from this place on ask for
unfoldable pub asked_from : State → ℕ → List (List ℕ) → Parsed
asked_from s place [] = at_end place (finished s)
asked_from s place (word ∷ words) = onward place (λ t. asked_from t (place + 1) words) (step s word)

-- of all words
unfoldable pub command : List (List ℕ) → Parsed
command words = asked_from a_name 1 words

-- by whether the first word is a command that is not built, and by what all words say
abbrev pub asked_by : Bool → Parsed → Asked
asked_by true words = NotBuilt
asked_by false (Err at) = Refused at
asked_by false (Ok c) = Run c

-- what the words ask for
unfoldable pub asked : List (List ℕ) → Asked
asked words = asked_by (begins_unbuilt words) (command words)

-- a command that is run is one that the program has so far
abbrev pub IsServed : Asked → Type 0
IsServed (Run (Validate strict schema document)) = Unit {0}
IsServed (Run (Dump options schema document)) = ⊥
IsServed (Run (Lines strict schema document)) = Unit {0}
IsServed (Run (Check schema)) = Unit {0}
IsServed (Run (JsonSchema schema)) = ⊥
IsServed (Run (Workload seed count)) = ⊥
IsServed (Refused at) = Unit {0}
IsServed NotBuilt = Unit {0}
