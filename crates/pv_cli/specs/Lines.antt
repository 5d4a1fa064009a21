-- The lines on standard error, each with its line feed.
use Rattle.std.specs.Prelude.{◌≡◌, ℕ, ◌⊎◌, Bool, true, false, List, [], ◌∷◌, ◌++◌, codes, decimal, Option, Some, None}
use Rattle.pv_notation.specs.Strings.{quoted}
use Rattle.pv_command.specs.declared.Asked.{Asked}
use Rattle.pv_cli.specs.Asking.{asks_dump, files_of, place_of}
use Rattle.pv_cli.specs.SchemaFiles.{SchemaRefusal, refusal_text}
use Rattle.pv_cli.specs.declared.status.Status.{Status}
use Rattle.pv_cli.specs.declared.status.Status.TheVariants.{Valid, Invalid, WordsRefused, SchemaRefused, ReadFault, TooLarge, WriteFault, Memory, DumpRefused, NotYet}

-- the byte at the end of a line
abbrev pub line_feed : ℕ
line_feed = 10

-- a text and its line feed
abbrev pub line : List ℕ → List ℕ
line text = text ++ line_feed ∷ []

-- a file of this name is not there, or was not read
abbrev pub read_failed : List ℕ → List ℕ
read_failed name = line (codes "read failed: " ++ quoted name)

-- a file of this name has more bytes than the limit
abbrev pub too_large : List ℕ → List ℕ
too_large name = line (codes "too large: " ++ quoted name)

-- the schema file is refused for this reason
abbrev pub schema_refused : List ℕ → List ℕ
schema_refused reason = line (codes "schema refused: " ++ reason)

-- the value is not serialised for this reason
abbrev pub dump_refused : List ℕ → List ℕ
dump_refused reason = line (codes "serialisation refused: " ++ reason)

-- the word at this place, from 1, cannot stand there
abbrev pub words_refused : ℕ → List ℕ
words_refused at = line (codes "words refused at " ++ decimal at)

-- a line about the word at a place, where there is one
abbrev pub IsOfPlace : Option ℕ → List ℕ → Type 0
IsOfPlace None text = ⊥
IsOfPlace (Some at) text = text ≡ words_refused at

-- a line about one of the files of these names
abbrev pub IsOfFile : (List ℕ → List ℕ) → List (List ℕ) → List ℕ → Type 0
IsOfFile of [] text = ⊥
IsOfFile of (name ∷ names) text = (text ≡ of name) ⊎ IsOfFile of names text

-- a line about a value that is not serialised, where `dump` is asked for
abbrev pub IsOfDump : Bool → List ℕ → Type 0
IsOfDump true text = (reason : List ℕ) × (text ≡ dump_refused reason)
IsOfDump false text = ⊥

-- what stands there with each status, by what the words ask for
abbrev pub IsLineOf : Asked → Status → List ℕ → Type 0
IsLineOf asked Valid text = text ≡ []
IsLineOf asked Invalid text = text ≡ []
IsLineOf asked WordsRefused text = IsOfPlace (place_of asked) text
IsLineOf asked SchemaRefused text =
    (r : SchemaRefusal) × (text ≡ schema_refused (refusal_text r))
IsLineOf asked ReadFault text = IsOfFile read_failed (files_of asked) text
IsLineOf asked TooLarge text = IsOfFile too_large (files_of asked) text
IsLineOf asked WriteFault text = text ≡ line (codes "write failed")
IsLineOf asked Memory text = text ≡ line (codes "out of memory")
IsLineOf asked DumpRefused text = IsOfDump (asks_dump asked) text
IsLineOf asked NotYet text = text ≡ line (codes "not built yet")

-- what an answer prints on standard output with each status; an answer has none of the other
-- statuses
abbrev pub IsOutOf : Status → List ℕ → Type 0
IsOutOf Valid text = Unit {0}
IsOutOf Invalid text = Unit {0}
IsOutOf WordsRefused text = text ≡ []
IsOutOf SchemaRefused text = text ≡ []
IsOutOf ReadFault text = text ≡ []
IsOutOf TooLarge text = text ≡ []
IsOutOf WriteFault text = ⊥
IsOutOf Memory text = ⊥
IsOutOf DumpRefused text = text ≡ []
IsOutOf NotYet text = text ≡ []
