-- The table of the types of objects and their keys, as data: each key in its order, what may stand
-- under it, whether it has to be there, whether it has an effect, and the tests that come last.
use Rattle.std.specs.Prelude.{ℕ, true, false, if◌then◌else◌, List, [], ◌∷◌, ◌++◌, codes}
use Rattle.std.specs.Prelude.{Option, None, Some, bytes_eq}
use Rattle.pv_rules.specs.declared.FieldsKind.{FieldsKind}
use Rattle.pv_rules.specs.declared.FieldsKind.TheVariants as fields
use Rattle.pv_schema_values.specs.declared.ValueKind.TheVariants as value
use Rattle.pv_schema_table.specs.Keys.{text}
use Rattle.pv_schema_table.specs.declared.key.Key.{Key}
use Rattle.pv_schema_table.specs.declared.key.Key.TheVariants as key
use Rattle.pv_schema_table.specs.declared.kind.Kind.{Kind}
use Rattle.pv_schema_table.specs.declared.kind.Kind.TheVariants as kind
use Rattle.pv_schema_table.specs.declared.node_type.NodeType.{NodeType}
use Rattle.pv_schema_table.specs.declared.node_type.NodeType.TheVariants as node
use Rattle.pv_schema_table.specs.declared.row.KeyRow.{KeyRow}
use Rattle.pv_schema_table.specs.declared.row.Fit.TheVariants as fit
use Rattle.pv_schema_table.specs.declared.row.Test.{Test}
use Rattle.pv_schema_table.specs.declared.row.Makes.{Makes}
use Rattle.pv_schema_table.specs.declared.row.Makes.TheVariants.{Node, Field}

-- what an object takes: keys that it shares with others, keys of its own, and tests
pub record ObjectRow : Type 0 where
  pub shared : List KeyRow
  pub own : List KeyRow
  pub tests : List Test

-- a type by its name: what is made of an object of this type, and what the object takes
pub record TypeRow : Type 0 where
  pub name : List ℕ
  pub makes : Makes
  pub object : ObjectRow

-- a key that may be there
abbrev pub may : Key → Kind → KeyRow
may key kind = record { key = key; kind = kind; required = false; effect = true }

-- a key that has to be there
abbrev pub must : Key → Kind → KeyRow
must key kind = record { key = key; kind = kind; required = true; effect = true }

-- a key that may be there and changes nothing
abbrev pub idle : Key → Kind → KeyRow
idle key kind = record { key = key; kind = kind; required = false; effect = false }

-- a key that has to be there and changes nothing
abbrev pub unread : Key → Kind → KeyRow
unread key kind = record { key = key; kind = kind; required = true; effect = false }

-- the keys that every node takes
abbrev pub node_keys : List KeyRow
node_keys =
    must key.Type (kind.Value value.Text)
    ∷ may key.Ref (kind.Value value.Text)
    ∷ may key.Strict (kind.Value value.Flag)
    ∷ may key.Serialization kind.NotBuilt
    ∷ idle key.Metadata (kind.Value value.Anything)
    ∷ []

-- the bounds of a length
abbrev pub lengths : List KeyRow
lengths =
    may key.MinLength (kind.Value value.Count)
    ∷ may key.MaxLength (kind.Value value.Count)
    ∷ []

-- the keys of an int
abbrev pub int_keys : List KeyRow
int_keys =
    may key.MultipleOf (kind.Value value.AtLeastOne)
    ∷ may key.Le (kind.Value value.Int)
    ∷ may key.Lt (kind.Value value.Int)
    ∷ may key.Ge (kind.Value value.Int)
    ∷ may key.Gt (kind.Value value.Int)
    ∷ []

-- the keys of a text
abbrev pub str_keys : List KeyRow
str_keys =
    lengths
    ++ may key.Pattern (kind.Value value.Text)
    ∷ may key.StripWhitespace (kind.Value value.Flag)
    ∷ idle key.RegexEngine (kind.Value value.Engine)
    ∷ []

-- the keys of a UUID
abbrev pub uuid_keys : List KeyRow
uuid_keys = may key.Version (kind.Value value.Version) ∷ []

-- the keys of a URL
abbrev pub url_keys : List KeyRow
url_keys =
    may key.MaxLength (kind.Value value.Count)
    ∷ may key.AllowedSchemes (kind.Value value.Texts)
    ∷ []

-- the keys of a literal
abbrev pub literal_keys : List KeyRow
literal_keys = must key.Expected (kind.Value value.Literals) ∷ []

-- the keys of an enum
abbrev pub enum_keys : List KeyRow
enum_keys =
    must key.Cls (kind.Value value.Text)
    ∷ must key.Members (kind.Value value.Members)
    ∷ may key.SubType (kind.Value value.SubType)
    ∷ []

-- the members of an enum are of its sub type
abbrev pub enum_test : Test
enum_test = record { key = key.SubType; other = key.Members; fit = fit.OfSubType }

-- the keys of a list, a set or a frozenset
abbrev pub sequence_keys : List KeyRow
sequence_keys =
    may key.ItemsSchema kind.Schema
    ∷ lengths
    ++ idle key.FailFast (kind.Value value.False)
    ∷ []

-- the keys of a tuple
abbrev pub tuple_keys : List KeyRow
tuple_keys =
    must key.ItemsSchema kind.Schemas
    ∷ may key.VariadicItemIndex (kind.Value value.Count)
    ∷ lengths
    ++ idle key.FailFast (kind.Value value.False)
    ∷ []

-- the variadic position of a tuple is one of its positions
abbrev pub tuple_test : Test
tuple_test = record {
  key = key.VariadicItemIndex;
  other = key.ItemsSchema;
  fit = fit.PlaceInList;
}

-- the keys of a dict
abbrev pub dict_keys : List KeyRow
dict_keys = may key.KeysSchema kind.Schema ∷ may key.ValuesSchema kind.Schema ∷ lengths

-- the keys of a nullable
abbrev pub nullable_keys : List KeyRow
nullable_keys = must key.Schema kind.Schema ∷ []

-- the keys of a default
abbrev pub default_keys : List KeyRow
default_keys =
    must key.Schema kind.Schema
    ∷ must key.Default (kind.Value value.Anything)
    ∷ may key.ValidateDefault (kind.Value value.Flag)
    ∷ may key.OnError (kind.Value value.OnError)
    ∷ idle key.CopyDefault (kind.Value value.Flag)
    ∷ []

-- the keys of the fields of a model
abbrev pub model_fields_keys : List KeyRow
model_fields_keys =
    must key.Fields (kind.Fields fields.Model)
    ∷ may key.ExtraBehavior (kind.Value value.ExtraBehavior)
    ∷ may key.ExtrasSchema kind.Schema
    ∷ idle key.ModelName (kind.Value value.Text)
    ∷ idle key.FromAttributes (kind.Value value.Flag)
    ∷ idle key.ComputedFields (kind.Value value.EmptyList)
    ∷ []

-- the keys of a typed dict
abbrev pub typed_dict_keys : List KeyRow
typed_dict_keys =
    must key.Fields (kind.Fields fields.TypedDict)
    ∷ may key.ExtraBehavior (kind.Value value.ExtraBehavior)
    ∷ may key.ExtrasSchema kind.Schema
    ∷ idle key.ComputedFields (kind.Value value.EmptyList)
    ∷ may key.Cls (kind.Value value.Text)
    ∷ may key.Total (kind.Value value.Flag)
    ∷ may key.Config kind.Config
    ∷ []

-- the keys of a model
abbrev pub model_keys : List KeyRow
model_keys =
    must key.Cls (kind.Value value.Text)
    ∷ must key.Schema kind.Schema
    ∷ may key.RootModel (kind.Value value.Flag)
    ∷ may key.Config kind.Config
    ∷ idle key.CustomInit (kind.Value value.False)
    ∷ idle key.Frozen (kind.Value value.Flag)
    ∷ idle key.RevalidateInstances (kind.Value value.Revalidation)
    ∷ []

-- the keys of a union
abbrev pub union_keys : List KeyRow
union_keys =
    must key.Choices kind.Choices
    ∷ may key.Mode (kind.Value value.UnionMode)
    ∷ idle key.AutoCollapse (kind.Value value.True)
    ∷ []

-- the keys of a tagged union
abbrev pub tagged_union_keys : List KeyRow
tagged_union_keys =
    must key.Choices kind.Tagged
    ∷ must key.Discriminator (kind.Value value.Alias)
    ∷ idle key.FromAttributes (kind.Value value.Flag)
    ∷ []

-- the keys of a pair of a lax and a strict schema
abbrev pub lax_or_strict_keys : List KeyRow
lax_or_strict_keys = must key.LaxSchema kind.Schema ∷ must key.StrictSchema kind.Schema ∷ []

-- the keys of a pair of a schema for JSON and one for Python, which is not read
abbrev pub json_or_python_keys : List KeyRow
json_or_python_keys =
    must key.JsonSchema kind.Schema
    ∷ unread key.PythonSchema (kind.Value value.Anything)
    ∷ []

-- the keys of a schema with an error of its own
abbrev pub custom_error_keys : List KeyRow
custom_error_keys =
    must key.Schema kind.Schema
    ∷ must key.CustomErrorType (kind.Value value.Text)
    ∷ must key.CustomErrorMessage (kind.Value value.Text)
    ∷ []

-- the keys of a function in place of a schema
abbrev pub plain_keys : List KeyRow
plain_keys = must key.Function (kind.Value value.Function) ∷ []

-- the keys of a function before, after or around a schema
abbrev pub beside_keys : List KeyRow
beside_keys = plain_keys ++ must key.Schema kind.Schema ∷ []

-- the keys of a schema with definitions
abbrev pub definitions_keys : List KeyRow
definitions_keys = must key.Schema kind.Schema ∷ must key.Definitions kind.Definitions ∷ []

-- the keys of a reference to a schema
abbrev pub definition_ref_keys : List KeyRow
definition_ref_keys = must key.SchemaRef (kind.Value value.Text) ∷ []

-- a type of nodes with these keys besides those of every node, and these tests
abbrev pub tested : List ℕ → NodeType → List KeyRow → List Test → TypeRow
tested name n own tests = record {
  name = name;
  makes = Node n;
  object = record { shared = node_keys; own = own; tests = tests };
}

-- a type of nodes without tests
abbrev pub built : List ℕ → NodeType → List KeyRow → TypeRow
built name n own = tested name n own []

-- the types of nodes
abbrev pub node_types : List TypeRow
node_types =
    built (codes "any") node.Any []
    ∷ built (codes "none") node.None []
    ∷ built (codes "bool") node.Bool []
    ∷ built (codes "int") node.Int int_keys
    ∷ built (codes "str") node.Str str_keys
    ∷ built (codes "bytes") node.Bytes lengths
    ∷ built (codes "uuid") node.Uuid uuid_keys
    ∷ built (codes "url") node.Url url_keys
    ∷ built (codes "literal") node.Literal literal_keys
    ∷ tested (codes "enum") node.Enum enum_keys (enum_test ∷ [])
    ∷ built (codes "list") node.List sequence_keys
    ∷ built (codes "set") node.Set sequence_keys
    ∷ built (codes "frozenset") node.Frozen sequence_keys
    ∷ tested (codes "tuple") node.Tuple tuple_keys (tuple_test ∷ [])
    ∷ built (codes "dict") node.Dict dict_keys
    ∷ built (codes "nullable") node.Nullable nullable_keys
    ∷ built (codes "default") node.Default default_keys
    ∷ built (codes "model-fields") node.ModelFields model_fields_keys
    ∷ built (codes "typed-dict") node.TypedDict typed_dict_keys
    ∷ built (codes "model") node.Model model_keys
    ∷ built (codes "union") node.Union union_keys
    ∷ built (codes "tagged-union") node.TaggedUnion tagged_union_keys
    ∷ built (codes "lax-or-strict") node.LaxOrStrict lax_or_strict_keys
    ∷ built (codes "json-or-python") node.JsonOrPython json_or_python_keys
    ∷ built (codes "custom-error") node.CustomError custom_error_keys
    ∷ built (codes "function-before") node.Before beside_keys
    ∷ built (codes "function-after") node.After beside_keys
    ∷ built (codes "function-wrap") node.Wrap beside_keys
    ∷ built (codes "function-plain") node.Plain plain_keys
    ∷ built (codes "definitions") node.Definitions definitions_keys
    ∷ built (codes "definition-ref") node.DefinitionRef definition_ref_keys
    ∷ []

-- the keys that every field takes
abbrev pub field_keys : List KeyRow
field_keys =
    must key.Type (kind.Value value.Text)
    ∷ must key.Schema kind.Schema
    ∷ may key.ValidationAlias (kind.Value value.Alias)
    ∷ may key.SerializationAlias (kind.Value value.Text)
    ∷ may key.SerializationExclude (kind.Value value.Flag)
    ∷ idle key.Metadata (kind.Value value.Anything)
    ∷ []

-- a type of fields with this key besides those of every field
abbrev pub field_type : List ℕ → KeyRow → TypeRow
field_type name own = record {
  name = name;
  makes = Field;
  object = record { shared = field_keys; own = own ∷ []; tests = [] };
}

-- the types of fields of each kind: one
abbrev pub field_types : FieldsKind → List TypeRow
field_types fields.Model =
    field_type (codes "model-field") (idle key.Frozen (kind.Value value.Flag)) ∷ []
field_types fields.TypedDict =
    field_type (codes "typed-dict-field") (may key.Required (kind.Value value.Flag)) ∷ []

-- the keys of a config, which has no type
abbrev pub config_keys : List KeyRow
config_keys =
    may key.Title (kind.Value value.Text)
    ∷ may key.Strict (kind.Value value.Flag)
    ∷ may key.ExtraFieldsBehavior (kind.Value value.ExtraBehavior)
    ∷ may key.PopulateByName (kind.Value value.Flag)
    ∷ may key.ValidateByAlias (kind.Value value.Flag)
    ∷ may key.ValidateByName (kind.Value value.Flag)
    ∷ may key.SerializeByAlias (kind.Value value.Flag)
    ∷ may key.LocByAlias (kind.Value value.Flag)
    ∷ may key.ValidateDefault (kind.Value value.Flag)
    ∷ may key.StrStripWhitespace (kind.Value value.Flag)
    ∷ may key.StrMinLength (kind.Value value.Count)
    ∷ may key.StrMaxLength (kind.Value value.Count)
    ∷ []

-- a config forbids reading by alias or reading by name, and not both
abbrev pub config_test : Test
config_test = record {
  key = key.ValidateByName;
  other = key.ValidateByAlias;
  fit = fit.NotBothFalse;
}

-- what a config takes
abbrev pub config : ObjectRow
config = record { shared = []; own = config_keys; tests = config_test ∷ [] }

-- the row of the type of this name
abbrev pub row_named : List ℕ → List TypeRow → Option TypeRow
row_named name [] = None
row_named name (r ∷ rs) = if bytes_eq name r.name then Some r else row_named name rs

-- all keys of an object
abbrev pub keys : ObjectRow → List KeyRow
keys o = o.shared ++ o.own

-- what may stand under a key that is written so, by the row of the key
abbrev pub kind_in : List KeyRow → List ℕ → Option Kind
kind_in [] name = None
kind_in (r ∷ rs) name = if bytes_eq name (text r.key) then Some r.kind else kind_in rs name

-- what may stand under a key of an object
unfoldable pub kind_under : ObjectRow → List ℕ → Option Kind
kind_under o name = kind_in (keys o) name
