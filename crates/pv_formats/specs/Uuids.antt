-- UUIDs, as the crate `uuid` reads and writes them.
use Rattle.std.specs.Prelude.{ℕ, List, Option, option_map}
use Rattle.uuid.specs.Text.{parsed, hyphenated_text, lower}
use Rattle.uuid.specs.Uuid.{version_num}
use Rattle.pv_formats.specs.declared.uuids.UuidText.{UuidText}

abbrev pub uuid_text : List ℕ → UuidText
uuid_text bytes = record { version = version_num bytes; text = hyphenated_text lower bytes }

-- the version digit and the hyphenated text in lower case, where the text is a UUID
unfoldable pub uuid_of : List ℕ → Option UuidText
uuid_of text = option_map uuid_text (parsed text)
