-- Keys without an effect change nothing: what is made of an object asks for the others alone.
use Rattle.std.proofs.Common.{ℕ, List, [], ◌∷◌, refl}
use Rattle.std.specs.Prelude.{codes}
use Rattle.std.specs.List.{AllByRecursion}
use Rattle.pv_rules.specs.declared.FieldsKind.{FieldsKind}
use Rattle.pv_rules.specs.declared.FieldsKind.TheVariants as fields
use Rattle.pv_schema_values.specs.declared.ValueKind.TheVariants as value
use Rattle.pv_schema.specs.Effects.{MakesOneNode, MakesOneField}
use Rattle.pv_schema_table.specs.Table.{node_types, field_types, built, tested, field_type, idle, may, lengths, int_keys, str_keys, uuid_keys, url_keys, literal_keys, enum_keys, enum_test, sequence_keys, tuple_keys, tuple_test, dict_keys, nullable_keys, default_keys, model_fields_keys, typed_dict_keys, model_keys, union_keys, tagged_union_keys, lax_or_strict_keys, json_or_python_keys, custom_error_keys, beside_keys, plain_keys, definitions_keys, definition_ref_keys}
use Rattle.pv_schema_table.specs.declared.Key.TheVariants as key
use Rattle.pv_schema_table.specs.declared.Kind.TheVariants as kind
use Rattle.pv_schema_table.specs.declared.NodeType.TheVariants as node

any_same : MakesOneNode (built (codes "any") node.Any [])
any_same ms ns h =
    let name = h.1.0 refl in
    let e0 = h.1.1.0 refl in
    cc

none_same : MakesOneNode (built (codes "none") node.None [])
none_same ms ns h =
    let name = h.1.0 refl in
    let e0 = h.1.1.0 refl in
    cc

bool_same : MakesOneNode (built (codes "bool") node.Bool [])
bool_same ms ns h =
    let name = h.1.0 refl in
    let e0 = h.1.1.0 refl in
    cc

int_same : MakesOneNode (built (codes "int") node.Int int_keys)
int_same ms ns h =
    let name = h.1.0 refl in
    let e0 = h.1.1.0 refl in
    let e1 = h.1.1.1.1.1.0 refl in
    let e2 = h.1.1.1.1.1.1.0 refl in
    let e3 = h.1.1.1.1.1.1.1.0 refl in
    let e4 = h.1.1.1.1.1.1.1.1.0 refl in
    let e5 = h.1.1.1.1.1.1.1.1.1.0 refl in
    cc

str_same : MakesOneNode (built (codes "str") node.Str str_keys)
str_same ms ns h =
    let name = h.1.0 refl in
    let e0 = h.1.1.0 refl in
    let e1 = h.1.1.1.1.1.0 refl in
    let e2 = h.1.1.1.1.1.1.0 refl in
    let e3 = h.1.1.1.1.1.1.1.0 refl in
    let e4 = h.1.1.1.1.1.1.1.1.0 refl in
    cc

bytes_same : MakesOneNode (built (codes "bytes") node.Bytes lengths)
bytes_same ms ns h =
    let name = h.1.0 refl in
    let e0 = h.1.1.0 refl in
    let e1 = h.1.1.1.1.1.0 refl in
    let e2 = h.1.1.1.1.1.1.0 refl in
    cc

uuid_same : MakesOneNode (built (codes "uuid") node.Uuid uuid_keys)
uuid_same ms ns h =
    let name = h.1.0 refl in
    let e0 = h.1.1.0 refl in
    let e1 = h.1.1.1.1.1.0 refl in
    cc

url_same : MakesOneNode (built (codes "url") node.Url url_keys)
url_same ms ns h =
    let name = h.1.0 refl in
    let e0 = h.1.1.0 refl in
    let e1 = h.1.1.1.1.1.0 refl in
    let e2 = h.1.1.1.1.1.1.0 refl in
    cc

literal_same : MakesOneNode (built (codes "literal") node.Literal literal_keys)
literal_same ms ns h =
    let name = h.1.0 refl in
    let e0 = h.1.1.0 refl in
    let e1 = h.1.1.1.1.1.0 refl in
    cc

enum_same : MakesOneNode (tested (codes "enum") node.Enum enum_keys (enum_test ∷ []))
enum_same ms ns h =
    let name = h.1.0 refl in
    let e0 = h.1.1.0 refl in
    let e1 = h.1.1.1.1.1.0 refl in
    let e2 = h.1.1.1.1.1.1.0 refl in
    let e3 = h.1.1.1.1.1.1.1.0 refl in
    cc

list_same : MakesOneNode (built (codes "list") node.List sequence_keys)
list_same ms ns h =
    let name = h.1.0 refl in
    let e0 = h.1.1.0 refl in
    let e1 = h.1.1.1.1.1.0 refl in
    let e2 = h.1.1.1.1.1.1.0 refl in
    let e3 = h.1.1.1.1.1.1.1.0 refl in
    cc

set_same : MakesOneNode (built (codes "set") node.Set sequence_keys)
set_same ms ns h =
    let name = h.1.0 refl in
    let e0 = h.1.1.0 refl in
    let e1 = h.1.1.1.1.1.0 refl in
    let e2 = h.1.1.1.1.1.1.0 refl in
    let e3 = h.1.1.1.1.1.1.1.0 refl in
    cc

frozenset_same : MakesOneNode (built (codes "frozenset") node.Frozen sequence_keys)
frozenset_same ms ns h =
    let name = h.1.0 refl in
    let e0 = h.1.1.0 refl in
    let e1 = h.1.1.1.1.1.0 refl in
    let e2 = h.1.1.1.1.1.1.0 refl in
    let e3 = h.1.1.1.1.1.1.1.0 refl in
    cc

tuple_same : MakesOneNode (tested (codes "tuple") node.Tuple tuple_keys (tuple_test ∷ []))
tuple_same ms ns h =
    let name = h.1.0 refl in
    let e0 = h.1.1.0 refl in
    let e1 = h.1.1.1.1.1.0 refl in
    let e2 = h.1.1.1.1.1.1.0 refl in
    let e3 = h.1.1.1.1.1.1.1.0 refl in
    let e4 = h.1.1.1.1.1.1.1.1.0 refl in
    cc

dict_same : MakesOneNode (built (codes "dict") node.Dict dict_keys)
dict_same ms ns h =
    let name = h.1.0 refl in
    let e0 = h.1.1.0 refl in
    let e1 = h.1.1.1.1.1.0 refl in
    let e2 = h.1.1.1.1.1.1.0 refl in
    let e3 = h.1.1.1.1.1.1.1.0 refl in
    let e4 = h.1.1.1.1.1.1.1.1.0 refl in
    cc

nullable_same : MakesOneNode (built (codes "nullable") node.Nullable nullable_keys)
nullable_same ms ns h =
    let name = h.1.0 refl in
    let e0 = h.1.1.0 refl in
    let e1 = h.1.1.1.1.1.0 refl in
    cc

default_same : MakesOneNode (built (codes "default") node.Default default_keys)
default_same ms ns h =
    let name = h.1.0 refl in
    let e0 = h.1.1.0 refl in
    let e1 = h.1.1.1.1.1.0 refl in
    let e2 = h.1.1.1.1.1.1.0 refl in
    let e3 = h.1.1.1.1.1.1.1.0 refl in
    let e4 = h.1.1.1.1.1.1.1.1.0 refl in
    cc

model_fields_same : MakesOneNode (built (codes "model-fields") node.ModelFields model_fields_keys)
model_fields_same ms ns h =
    let name = h.1.0 refl in
    let e0 = h.1.1.0 refl in
    let e1 = h.1.1.1.1.1.0 refl in
    let e2 = h.1.1.1.1.1.1.0 refl in
    let e3 = h.1.1.1.1.1.1.1.0 refl in
    cc

typed_dict_same : MakesOneNode (built (codes "typed-dict") node.TypedDict typed_dict_keys)
typed_dict_same ms ns h =
    let name = h.1.0 refl in
    let e0 = h.1.1.0 refl in
    let e1 = h.1.1.1.1.1.0 refl in
    let e2 = h.1.1.1.1.1.1.0 refl in
    let e3 = h.1.1.1.1.1.1.1.0 refl in
    let e4 = h.1.1.1.1.1.1.1.1.1.0 refl in
    let e5 = h.1.1.1.1.1.1.1.1.1.1.0 refl in
    let e6 = h.1.1.1.1.1.1.1.1.1.1.1.0 refl in
    cc

model_same : MakesOneNode (built (codes "model") node.Model model_keys)
model_same ms ns h =
    let name = h.1.0 refl in
    let e0 = h.1.1.0 refl in
    let e1 = h.1.1.1.1.1.0 refl in
    let e2 = h.1.1.1.1.1.1.0 refl in
    let e3 = h.1.1.1.1.1.1.1.0 refl in
    let e4 = h.1.1.1.1.1.1.1.1.0 refl in
    cc

union_same : MakesOneNode (built (codes "union") node.Union union_keys)
union_same ms ns h =
    let name = h.1.0 refl in
    let e0 = h.1.1.0 refl in
    let e1 = h.1.1.1.1.1.0 refl in
    let e2 = h.1.1.1.1.1.1.0 refl in
    cc

tagged_union_same : MakesOneNode (built (codes "tagged-union") node.TaggedUnion tagged_union_keys)
tagged_union_same ms ns h =
    let name = h.1.0 refl in
    let e0 = h.1.1.0 refl in
    let e1 = h.1.1.1.1.1.0 refl in
    let e2 = h.1.1.1.1.1.1.0 refl in
    cc

lax_or_strict_same : MakesOneNode (built (codes "lax-or-strict") node.LaxOrStrict lax_or_strict_keys)
lax_or_strict_same ms ns h =
    let name = h.1.0 refl in
    let e0 = h.1.1.0 refl in
    let e1 = h.1.1.1.1.1.0 refl in
    let e2 = h.1.1.1.1.1.1.0 refl in
    cc

json_or_python_same : MakesOneNode (built (codes "json-or-python") node.JsonOrPython json_or_python_keys)
json_or_python_same ms ns h =
    let name = h.1.0 refl in
    let e0 = h.1.1.0 refl in
    let e1 = h.1.1.1.1.1.0 refl in
    cc

custom_error_same : MakesOneNode (built (codes "custom-error") node.CustomError custom_error_keys)
custom_error_same ms ns h =
    let name = h.1.0 refl in
    let e0 = h.1.1.0 refl in
    let e1 = h.1.1.1.1.1.0 refl in
    let e2 = h.1.1.1.1.1.1.0 refl in
    let e3 = h.1.1.1.1.1.1.1.0 refl in
    cc

before_same : MakesOneNode (built (codes "function-before") node.Before beside_keys)
before_same ms ns h =
    let name = h.1.0 refl in
    let e0 = h.1.1.0 refl in
    let e1 = h.1.1.1.1.1.0 refl in
    let e2 = h.1.1.1.1.1.1.0 refl in
    cc

after_same : MakesOneNode (built (codes "function-after") node.After beside_keys)
after_same ms ns h =
    let name = h.1.0 refl in
    let e0 = h.1.1.0 refl in
    let e1 = h.1.1.1.1.1.0 refl in
    let e2 = h.1.1.1.1.1.1.0 refl in
    cc

wrap_same : MakesOneNode (built (codes "function-wrap") node.Wrap beside_keys)
wrap_same ms ns h =
    let name = h.1.0 refl in
    let e0 = h.1.1.0 refl in
    let e1 = h.1.1.1.1.1.0 refl in
    let e2 = h.1.1.1.1.1.1.0 refl in
    cc

plain_same : MakesOneNode (built (codes "function-plain") node.Plain plain_keys)
plain_same ms ns h =
    let name = h.1.0 refl in
    let e0 = h.1.1.0 refl in
    let e1 = h.1.1.1.1.1.0 refl in
    cc

definitions_same : MakesOneNode (built (codes "definitions") node.Definitions definitions_keys)
definitions_same ms ns h =
    let name = h.1.0 refl in
    let e0 = h.1.1.0 refl in
    let e1 = h.1.1.1.1.1.0 refl in
    let e2 = h.1.1.1.1.1.1.0 refl in
    cc

definition_ref_same : MakesOneNode (built (codes "definition-ref") node.DefinitionRef definition_ref_keys)
definition_ref_same ms ns h =
    let name = h.1.0 refl in
    let e0 = h.1.1.0 refl in
    let e1 = h.1.1.1.1.1.0 refl in
    cc

pub nodes_are_one : AllByRecursion MakesOneNode node_types
nodes_are_one =
    (any_same, (none_same, (bool_same, (int_same, (str_same, (bytes_same, (uuid_same, (url_same, (literal_same, (enum_same, (list_same, (set_same, (frozenset_same, (tuple_same, (dict_same, (nullable_same, (default_same, (model_fields_same, (typed_dict_same, (model_same, (union_same, (tagged_union_same, (lax_or_strict_same, (json_or_python_same, (custom_error_same, (before_same, (after_same, (wrap_same, (plain_same, (definitions_same, (definition_ref_same, tt)))))))))))))))))))))))))))))))

model_field_same : MakesOneField fields.Model (field_type (codes "model-field") (idle key.Frozen (kind.Value value.Flag)))
model_field_same ms ns total name h =
    let e0 = h.1.0 refl in
    let e1 = h.1.1.0 refl in
    let e2 = h.1.1.1.0 refl in
    let e3 = h.1.1.1.1.0 refl in
    (cc, cc)

typed_dict_field_same : MakesOneField fields.TypedDict (field_type (codes "typed-dict-field") (may key.Required (kind.Value value.Flag)))
typed_dict_field_same ms ns total name h =
    let e0 = h.1.0 refl in
    let e1 = h.1.1.0 refl in
    let e2 = h.1.1.1.0 refl in
    let e3 = h.1.1.1.1.0 refl in
    let e4 = h.1.1.1.1.1.1.0 refl in
    (cc, cc)

pub fields_are_one : (k : FieldsKind) → AllByRecursion (MakesOneField k) (field_types k)
fields_are_one fields.Model = (model_field_same, tt)
fields_are_one fields.TypedDict = (typed_dict_field_same, tt)
