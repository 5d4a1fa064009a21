-- The operands of the commands.
use Rattle.std.specs.Prelude.{ℕ, ◌^◌, Bool, ◌&&◌, if◌then◌else◌, List, codes, Option, Some, None, bytes_eq}
use Rattle.pv_command.specs.Numbers.{number_below}
use Rattle.pv_command.specs.declared.asked.Command.{Command}

-- the operands that have to come: nothing more, or a word of some kind and, by what it says,
-- those behind it
pub data Operands : Type 0 where
  whole : Command → Operands
  -- a file's name, or `-`
  a_file : (List ℕ → Operands) → Operands
  -- a file's name, or `-` where the other file is not that
  a_file_beside : List ℕ → (List ℕ → Operands) → Operands
  -- a number below 2^64
  a_seed : (ℕ → Operands) → Operands
  -- a number of at most 100,000
  a_count : (ℕ → Operands) → Operands

-- it stands for standard input
abbrev pub is_input : List ℕ → Bool
is_input word = bytes_eq word (codes "-")

-- the operands behind a number, where it was read
abbrev pub number_by : (ℕ → Operands) → Option ℕ → Option Operands
number_by next None = None
number_by next (Some n) = Some (next n)

-- what has to come behind a word that stands first among these operands, or `None` where it
-- cannot stand there
unfoldable pub behind : Operands → List ℕ → Option Operands
behind (whole c) word = None
behind (a_file next) word = Some (next word)
behind (a_file_beside other next) word =
    if is_input other && is_input word then None else Some (next word)
behind (a_seed next) word = number_by next (number_below (2 ^ 64) word)
behind (a_count next) word = number_by next (number_below 100001 word)

-- the command, where no operand is missing
abbrev pub completed : Operands → Option Command
completed (whole c) = Some c
completed (a_file next) = None
completed (a_file_beside other next) = None
completed (a_seed next) = None
completed (a_count next) = None

-- SCHEMA DOC
abbrev pub schema_and_document : (List ℕ → List ℕ → Command) → Operands
schema_and_document make =
    a_file (λ schema. a_file_beside schema (λ document. whole (make schema document)))

-- SCHEMA
abbrev pub one_schema : (List ℕ → Command) → Operands
one_schema make = a_file (λ schema. whole (make schema))

-- SEED COUNT
abbrev pub seed_and_count : (ℕ → ℕ → Command) → Operands
seed_and_count make = a_seed (λ seed. a_count (λ count. whole (make seed count)))
