-- What a schema file is by the functions that there are: a schema that is served, or why it is not.
use Rattle.std.specs.Prelude.{ℕ, List, ◌++◌, codes, map, Option, Some, None, Result, Ok, Err}
use Rattle.std.specs.Option.{option_map}
use Rattle.pv_tree.specs.declared.Step.{Step}
use Rattle.pv_tree.specs.declared.Step.TheVariants.{Name}
use Rattle.pv_notation.specs.Locations.{loc_text}
use Rattle.pv_notation.specs.Strings.{quoted}
use Rattle.pv_json_grammar.specs.Documents.{Document, whole, bad}
use Rattle.pv_json_grammar.specs.Documents as document
use Rattle.pv_func.specs.Functions.{Named, Meaning}
use Rattle.pv_node.specs.declared.Node.{Node}
use Rattle.pv_schema_check.specs.declared.ShapeCode.{ShapeCode}
use Rattle.pv_schema_check.specs.declared.ShapeCode.TheVariants.{NotObject, MissingKey, UnknownType, UnknownKey, BadValue}
use Rattle.pv_schema.specs.Reading as reading
use Rattle.pv_schema.specs.Reading.{NoSchema, schema_of}
use Rattle.pv_plan.specs.Faults as plan
use Rattle.pv_plan.specs.Faults.{NoPlan, no_plan}
use Rattle.pv_cli.specs.Faults.{schema_bad_text, schema_end_text}

-- why a schema is not built
pub data BuildRefusal : Type 0 where
  duplicate_ref : (name : List ℕ) → BuildRefusal
  undefined_ref : (name : List ℕ) → BuildRefusal
  empty_cycle : (names : List (List ℕ)) → BuildRefusal
  unknown_function : (name : List ℕ) → BuildRefusal
  wrong_kind_of_function : (name : List ℕ) → BuildRefusal
  bad_pattern : (path : List Step) → BuildRefusal

-- why a schema file is refused
pub data SchemaRefusal : Type 0 where
  -- the byte at this place fits no JSON
  not_json : (at : ℕ) → SchemaRefusal
  ends_early : SchemaRefusal
  misshapen : (code : ShapeCode) (path : List Step) → SchemaRefusal
  too_many_nodes : SchemaRefusal
  not_built : BuildRefusal → SchemaRefusal

-- what a schema file is
pub data SchemaFile : Type 0 where
  served : Node → SchemaFile
  refused_for : SchemaRefusal → SchemaFile
  -- it has a type or a key that is not served yet
  not_yet : SchemaFile

-- ---- which of them

-- why a schema is not built, by why it has no plan
abbrev pub refusal_of : NoPlan → BuildRefusal
refusal_of (plan.duplicate_ref name) = duplicate_ref name
refusal_of (plan.undefined_ref name) = undefined_ref name
refusal_of (plan.empty_cycle names) = empty_cycle names
refusal_of (plan.unknown_function name) = unknown_function name
refusal_of (plan.wrong_kind name) = wrong_kind_of_function name
refusal_of (plan.bad_pattern_at path) = bad_pattern path

-- why a schema is not built, where it is not
abbrev pub builds : Named Meaning → Node → Option BuildRefusal
builds functions schema = option_map refusal_of (no_plan functions schema)

-- a schema, by why it is not built
abbrev pub file_of_schema : Node → Option BuildRefusal → SchemaFile
file_of_schema schema None = served schema
file_of_schema schema (Some r) = refused_for (not_built r)

-- by what is read of it
abbrev pub file_of_shape : Named Meaning → Result Node NoSchema → SchemaFile
file_of_shape functions (Ok schema) = file_of_schema schema (builds functions schema)
file_of_shape functions (Err (reading.shape path code)) = refused_for (misshapen code path)
file_of_shape functions (Err (reading.not_yet path)) = not_yet
file_of_shape functions (Err (reading.too_many count)) = refused_for too_many_nodes

-- by what the file is as a document
abbrev pub schema_file : Named Meaning → Document → SchemaFile
schema_file functions (whole t) = file_of_shape functions (schema_of t)
schema_file functions (bad at) = refused_for (not_json at)
schema_file functions document.ends_early = refused_for ends_early

-- ---- their texts

-- what is wrong with the shape of a schema
abbrev pub code_text : ShapeCode → List ℕ
code_text NotObject = codes "not_object"
code_text MissingKey = codes "missing_key"
code_text UnknownType = codes "unknown_type"
code_text UnknownKey = codes "unknown_key"
code_text BadValue = codes "bad_value"

-- what is wrong with a schema, and where
abbrev pub placed_text : List ℕ → List Step → List ℕ
placed_text what path = what ++ (codes " at " ++ loc_text path)

-- why a schema is not built
abbrev pub build_text : BuildRefusal → List ℕ
build_text (duplicate_ref name) = codes "duplicate ref " ++ quoted name
build_text (undefined_ref name) = codes "undefined ref " ++ quoted name
build_text (empty_cycle names) = codes "empty cycle " ++ loc_text (map (λ name. Name name) names)
build_text (unknown_function name) = codes "unknown function " ++ quoted name
build_text (wrong_kind_of_function name) = codes "wrong kind of function " ++ quoted name
build_text (bad_pattern path) = placed_text (codes "bad pattern") path

-- why a schema file is refused
abbrev pub refusal_text : SchemaRefusal → List ℕ
refusal_text (not_json at) = schema_bad_text at
refusal_text ends_early = schema_end_text
refusal_text (misshapen code path) = placed_text (code_text code) path
refusal_text too_many_nodes = codes "more than 100000 nodes"
refusal_text (not_built r) = build_text r
