-- The numbers of the statuses.
use Rattle.std.specs.Prelude.{ℕ}
use Rattle.pv_cli.specs.declared.status.Status.{Status}
use Rattle.pv_cli.specs.declared.status.Status.TheVariants.{Valid, Invalid, WordsRefused, SchemaRefused, ReadFault, TooLarge, WriteFault, Memory, DumpRefused, NotYet}

-- the exit code of a status
abbrev pub code_of : Status → ℕ
code_of Valid = 0
code_of Invalid = 1
code_of WordsRefused = 2
code_of SchemaRefused = 3
code_of ReadFault = 4
code_of TooLarge = 5
code_of WriteFault = 6
code_of Memory = 7
code_of DumpRefused = 8
code_of NotYet = 9
