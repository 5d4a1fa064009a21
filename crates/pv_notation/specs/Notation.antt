-- The notation of a value: JSON, in which all but null, flags, whole numbers, texts and lists is
-- an object with one name that says what it is.
use Rattle.std.specs.Prelude.{ℕ, if◌then◌else◌, List, [], ◌∷◌, ◌++◌, map, codes}
use Rattle.std.specs.List.{flat_map}
use Rattle.std.specs.Fmt.{signed_decimal}
use Rattle.pv_tree.specs.declared.Value.{Value, fold-Value}
use Rattle.pv_tree.specs.declared.Value.TheOpen.{Value-F}
use Rattle.pv_tree.specs.declared.AtomKind.{AtomKind}
use Rattle.pv_tree.specs.declared.AtomKind.TheVariants.{Uuid, Url, Date, Time, DateTime, Decimal}
use Rattle.pv_notation.specs.Strings.{quoted, hex_byte}
use Rattle.pv_notation.specs.Lists.{list_text}

-- an object with one member
abbrev pub tagged : List ℕ → List ℕ → List ℕ
tagged name text = 123 ∷ quoted name ++ 58 ∷ text ++ 125 ∷ []

-- the name of a kind of atom
abbrev pub atom_name : AtomKind → List ℕ
atom_name Uuid = codes "uuid"
atom_name Url = codes "url"
atom_name Date = codes "date"
atom_name Time = codes "time"
atom_name DateTime = codes "datetime"
atom_name Decimal = codes "decimal"

-- a name or a key beside the text of its value
abbrev pub named_text : List ℕ × List ℕ → List ℕ
named_text p = list_text (quoted p.0 ∷ p.1 ∷ [])

-- a key beside its value, by their texts
abbrev pub entry_text : List ℕ × List ℕ → List ℕ
entry_text p = list_text (p.0 ∷ p.1 ∷ [])

-- one level, with the notation of each value inside in its place
abbrev pub notation_step : Value-F (List ℕ) → List ℕ
notation_step Value-F.None = codes "null"
notation_step (Value-F.Bool b) = if b then codes "true" else codes "false"
notation_step (Value-F.Int n) = signed_decimal n
notation_step (Value-F.Lexeme lexeme) = tagged (codes "number") (quoted lexeme)
notation_step (Value-F.Str text) = quoted text
notation_step (Value-F.Bytes bytes) =
    tagged (codes "bytes") (34 ∷ flat_map hex_byte bytes ++ 34 ∷ [])
notation_step (Value-F.Atom kind text) = tagged (atom_name kind) (quoted text)
notation_step (Value-F.Enum cls name value) =
    tagged (codes "enum") (list_text (quoted cls ∷ quoted name ∷ value ∷ []))
notation_step (Value-F.List values) = list_text values
notation_step (Value-F.Tuple values) = tagged (codes "tuple") (list_text values)
notation_step (Value-F.Set values) = tagged (codes "set") (list_text values)
notation_step (Value-F.Frozen values) = tagged (codes "frozenset") (list_text values)
notation_step (Value-F.Dict entries) = tagged (codes "dict") (list_text (map entry_text entries))
notation_step (Value-F.Model cls fields set extra) =
    tagged (codes "model")
    (list_text (quoted cls ∷ list_text (map named_text fields) ∷ list_text (map quoted set)
    ∷ list_text (map named_text extra) ∷ []))
notation_step (Value-F.Root cls value) = tagged (codes "root") (list_text (quoted cls ∷ value ∷ []))

-- the text of a value
abbrev pub notation : Value → List ℕ
notation = fold-Value (List ℕ) notation_step

-- a name beside the text of its value
abbrev pub named_notation : List ℕ × Value → List ℕ
named_notation p = list_text (quoted p.0 ∷ notation p.1 ∷ [])

-- an entry of a dict: its key beside its value
abbrev pub entry_notation : Value × Value → List ℕ
entry_notation p = list_text (notation p.0 ∷ notation p.1 ∷ [])
