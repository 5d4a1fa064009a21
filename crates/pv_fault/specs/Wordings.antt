-- The texts that the pieces of a wording stand for.
use Rattle.std.specs.Prelude.{ℕ, List, map, take}
use Rattle.std.specs.List.{flat_map}
use Rattle.std.specs.Fmt.{decimal, signed_decimal}
use Rattle.pv_notation.specs.Strings.{quoted}
use Rattle.pv_fault.specs.declared.pieces.Piece.{Piece}
use Rattle.pv_fault.specs.declared.pieces.Piece.TheVariants.{Text, Number, Count}
use Rattle.pv_fault.specs.declared.pieces.Member.{Member}
use Rattle.pv_fault.specs.declared.pieces.Context.{Context}
use Rattle.pv_fault.specs.declared.pieces.Wording.{Wording}
use Rattle.pv_fault.specs.Table.{Printed}

-- as a part of a message
abbrev pub piece_text : Piece → List ℕ
piece_text (Text text) = text.now
piece_text (Number n) = signed_decimal n
piece_text (Count n) = decimal n

-- as a value of JSON
abbrev pub piece_json : Piece → List ℕ
piece_json (Text text) = quoted text.now
piece_json (Number n) = signed_decimal n
piece_json (Count n) = decimal n

abbrev pub members_of : Context → List Member
members_of c = take c.len c.members

-- a key of a context, and the text at it
abbrev pub key_and_json : Member → List ℕ × List ℕ
key_and_json m = (m.key.now, piece_json m.value)

-- a whole wording
abbrev pub printed_by : Wording → Printed
printed_by w = record {
  name = w.name.now;
  message = flat_map piece_text w.message;
  context = map key_and_json (members_of w.context);
}
