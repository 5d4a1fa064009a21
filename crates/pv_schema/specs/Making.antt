-- What a tree is made to be as each kind, where nothing is wrong with it. What is absent is left
-- out, and what is wrong is taken as absent.
use Rattle.std.specs.Prelude.{ℕ, Bool, false, List, [], ◌∷◌, map, length}
use Rattle.std.specs.Prelude.{Option, None, Some, unwrap_or, Result, Ok, Err}
use Rattle.std.specs.Option.{option_map}
use Rattle.pv_tree.specs.Parts.{items_at, members_at}
use Rattle.pv_tree.specs.declared.Tree.{Tree, rec-Tree}
use Rattle.pv_tree.specs.declared.Tree.TheOpen.{Tree-F}
use Rattle.pv_rules.specs.declared.Collection.TheVariants as collection
use Rattle.pv_rules.specs.declared.FieldsKind.{FieldsKind}
use Rattle.pv_rules.specs.declared.FieldsKind.TheVariants as fields
use Rattle.pv_rules.specs.declared.OnError.TheVariants as on_error
use Rattle.pv_rules.specs.declared.ScalarRule.TheVariants as rule
use Rattle.pv_rules.specs.declared.Settings.{Settings}
use Rattle.pv_node.specs.Absent.{any, or_any}
use Rattle.pv_node.specs.declared.Node.{Node, roll-Node}
use Rattle.pv_node.specs.declared.Body.{Body}
use Rattle.pv_node.specs.declared.Body.TheVariants as body
use Rattle.pv_schema_values.specs.Values.{text_of, flag_of, version_of, literals_of}
use Rattle.pv_schema_values.specs.Values.{extra_behavior_of, on_error_of, alias_of, union_mode_of}
use Rattle.pv_schema.specs.Choices.{Choice, union_rule, choice_schemas, tag_rule, tagged_schemas}
use Rattle.pv_schema_check.specs.ObjectTypes.{row_of}
use Rattle.pv_schema.specs.Configs.{settings, titled}
use Rattle.pv_schema.specs.Fields.{Field, written_field, fields_rule, field_schemas}
use Rattle.pv_schema_check.specs.Find.{find, tree_at}
use Rattle.pv_schema_table.specs.Keys.{text}
use Rattle.pv_schema.specs.NodeRules.{int_rule, str_rule, bytes_rule, url_rule, enum_rule}
use Rattle.pv_schema.specs.NodeRules.{gather_rule, tuple_rule, func_rule}
use Rattle.pv_schema_table.specs.Table.{TypeRow, node_types}
use Rattle.pv_schema.specs.Written.{read, or_empty, or_null, flag_or}
use Rattle.pv_schema_check.specs.declared.Code.{Code}
use Rattle.pv_schema_table.specs.declared.Key.{Key}
use Rattle.pv_schema_table.specs.declared.Key.TheVariants as key
use Rattle.pv_schema_table.specs.declared.Kind.{Kind}
use Rattle.pv_schema_table.specs.declared.Kind.TheVariants as kind
use Rattle.pv_schema_table.specs.declared.NodeType.{NodeType}
use Rattle.pv_schema_table.specs.declared.NodeType.TheVariants as node
use Rattle.pv_schema_table.specs.declared.Makes.{Makes}
use Rattle.pv_schema_table.specs.declared.Makes.TheVariants as makes

-- what a tree is made to be as each kind; values are read where they stand
abbrev pub MadeAs : Kind → Type 0
MadeAs (kind.Value v) = Unit {0}
MadeAs kind.Schema = Node
MadeAs kind.Schemas = List Node
MadeAs kind.Choices = List Choice
MadeAs kind.Choice = Choice
MadeAs kind.Tagged = List (List ℕ × Node)
MadeAs kind.Definitions = List Node
MadeAs kind.Definition = Node
MadeAs (kind.Fields k) = List (List ℕ × Field)
MadeAs (kind.Field k) = Field
MadeAs kind.Config = Settings
MadeAs kind.NotBuilt = Unit {0}

-- a node, by the trees under the keys and by what they are made to be as each kind
module _ (at : Key → Option Tree) (part : (k : Kind) → Key → Option (MadeAs k)) where
  -- what a node with these fields asks for
  abbrev pub fields_body : FieldsKind → Option Bool → List (List ℕ × Field) → Option Settings
      → Option (List ℕ) → Body
  fields_body k total fs config cls =
      body.Fields
      (fields_rule k total (read extra_behavior_of (at key.ExtraBehavior)) fs)
      (field_schemas fs)
      (part kind.Schema key.ExtrasSchema)
      config
      cls

  -- the schema under a key, or the one that stands for an absent one
  abbrev pub required : Key → Node
  required k = or_any (part kind.Schema k)

  -- what a union with these choices asks for
  abbrev pub union_body : List Choice → Body
  union_body cs =
      body.Union (union_rule (read union_mode_of (at key.Mode)) cs) (choice_schemas cs)

  -- what a tagged union with these choices asks for
  abbrev pub tagged_body : List (List ℕ × Node) → Body
  tagged_body cs =
      body.TaggedUnion (tag_rule (read alias_of (at key.Discriminator)) cs) (tagged_schemas cs)

  -- a field
  abbrev pub field : Field
  field = record { keys = written_field at; schema = required key.Schema }

  -- what a node of a type asks for
  abbrev pub body_of : NodeType → Body
  body_of node.Any = body.Scalar rule.Any
  body_of node.None = body.Scalar rule.None
  body_of node.Bool = body.Scalar rule.Bool
  body_of node.Int = body.Scalar (rule.Int (int_rule at))
  body_of node.Str = body.Scalar (rule.Str (str_rule at))
  body_of node.Bytes = body.Scalar (rule.Bytes (bytes_rule at))
  body_of node.Uuid = body.Scalar (rule.Uuid (read version_of (at key.Version)))
  body_of node.Url = body.Scalar (rule.Url (url_rule at))
  body_of node.Literal =
      body.Scalar (rule.Literal (or_empty (read literals_of (at key.Expected))))
  body_of node.Enum = body.Scalar (rule.Enum (enum_rule at))
  body_of node.List =
      body.Sequence (gather_rule at collection.List) (part kind.Schema key.ItemsSchema)
  body_of node.Set =
      body.Sequence (gather_rule at collection.Set) (part kind.Schema key.ItemsSchema)
  body_of node.Frozen =
      body.Sequence (gather_rule at collection.Frozen) (part kind.Schema key.ItemsSchema)
  body_of node.Tuple =
      body.Tuple
      (tuple_rule at (length (or_empty (part kind.Schemas key.ItemsSchema))))
      (or_empty (part kind.Schemas key.ItemsSchema))
  body_of node.Dict =
      body.Dict
      (gather_rule at collection.Dict)
      (part kind.Schema key.KeysSchema)
      (part kind.Schema key.ValuesSchema)
  body_of node.Nullable = body.Nullable (required key.Schema)
  body_of node.Default = body.Default
      (or_null (at key.Default))
      (read flag_of (at key.ValidateDefault))
      (unwrap_or (read on_error_of (at key.OnError)) on_error.Raise)
      (required key.Schema)
  body_of node.ModelFields =
      fields_body
      fields.Model
      None
      (or_empty (part (kind.Fields fields.Model) key.Fields))
      None
      None
  body_of node.TypedDict =
      fields_body
      fields.TypedDict
      (read flag_of (at key.Total))
      (or_empty (part (kind.Fields fields.TypedDict) key.Fields))
      (option_map (titled (read text_of (at key.Cls))) (part kind.Config key.Config))
      (read text_of (at key.Cls))
  body_of node.Model =
      body.Model
      (or_empty (read text_of (at key.Cls)))
      (flag_or false (at key.RootModel))
      (option_map (titled (read text_of (at key.Cls))) (part kind.Config key.Config))
      (required key.Schema)
  body_of node.Union = union_body (or_empty (part kind.Choices key.Choices))
  body_of node.TaggedUnion = tagged_body (or_empty (part kind.Tagged key.Choices))
  body_of node.LaxOrStrict = body.LaxOrStrict (required key.LaxSchema) (required key.StrictSchema)
  body_of node.JsonOrPython = body.JsonOrPython (required key.JsonSchema)
  body_of node.CustomError =
      body.CustomError
      (or_empty (read text_of (at key.CustomErrorType)))
      (or_empty (read text_of (at key.CustomErrorMessage)))
      (required key.Schema)
  body_of node.Before = body.Before (func_rule at) (required key.Schema)
  body_of node.After = body.After (func_rule at) (required key.Schema)
  body_of node.Wrap = body.Wrap (func_rule at) (required key.Schema)
  body_of node.Plain = body.Plain (func_rule at)
  body_of node.Definitions =
      body.Definitions (required key.Schema) (or_empty (part kind.Definitions key.Definitions))
  body_of node.DefinitionRef =
      body.DefinitionRef (or_empty (read text_of (at key.SchemaRef)))

  -- a node of a type
  abbrev pub node_of_type : NodeType → Node
  node_of_type n = roll-Node (record {
    own_ref = read text_of (at key.Ref);
    strict = read flag_of (at key.Strict);
    body = body_of n;
  })

  -- what is made of an object by its row
  abbrev pub node_made : Makes → Node
  node_made makes.NotBuilt = any
  node_made (makes.Node n) = node_of_type n
  node_made makes.Field = any

  -- the same, where the row was found; where it was not, the node that stands for an absent one
  abbrev pub node_by_row : Result TypeRow Code → Node
  node_by_row (Err code) = any
  node_by_row (Ok row) = node_made row.makes

-- one level, by the trees inside and by what each is made to be as each kind
module _ {X : Type 0} (tree : X → Tree) (inner : X → (k : Kind) → MadeAs k) where
  -- what stands under a key, as a kind
  abbrev pub part_at : List (List ℕ × X) → (k : Kind) → Key → Option (MadeAs k)
  part_at ms k key = option_map (λ x. inner x k) (find (text key) ms)

  -- an object of a node type, by its members
  abbrev pub body_in : List (List ℕ × X) → NodeType → Body
  body_in ms = body_of (tree_at tree ms) (part_at ms)

  -- an object with these members as a schema
  abbrev pub node_in : List (List ℕ × X) → Node
  node_in ms =
      node_by_row (tree_at tree ms) (part_at ms) (row_of node_types (tree_at tree ms key.Type))

  -- a list of these items as a list of schemas
  abbrev pub nodes_in : List X → List Node
  nodes_in xs = map (λ x. inner x kind.Schema) xs

  -- the same as a list of definitions
  abbrev pub definitions_in : List X → List Node
  definitions_in xs = map (λ x. inner x kind.Definition) xs

  -- an object with these members as an object of a kind under each name
  abbrev pub named_in : (k : Kind) → List (List ℕ × X) → List (List ℕ × MadeAs k)
  named_in k ms = map (λ m. (m.0, inner m.1 k)) ms

  -- an object with these members as an object of fields
  abbrev pub fields_in : FieldsKind → List (List ℕ × X) → List (List ℕ × Field)
  fields_in k ms = named_in (kind.Field k) ms

  -- a list of these items as the choices of a union
  abbrev pub choices_in : List X → List Choice
  choices_in xs = map (λ x. inner x kind.Choice) xs

  -- the label of a choice, by its items, where these are a schema and its label
  abbrev pub label_in : Option (List X) → Option (List ℕ)
  label_in None = None
  label_in (Some []) = None
  label_in (Some (x ∷ [])) = None
  label_in (Some (x ∷ y ∷ [])) = text_of (tree y)
  label_in (Some (x ∷ y ∷ z ∷ zs)) = None

  -- the schema of a choice, by the same items
  abbrev pub schema_in : List X → Node
  schema_in [] = any
  schema_in (x ∷ []) = any
  schema_in (x ∷ y ∷ []) = inner x kind.Schema
  schema_in (x ∷ y ∷ z ∷ zs) = any

  -- the schema of a choice
  abbrev pub choice_schema : Tree-F X → Node
  choice_schema Tree-F.Null = any
  choice_schema (Tree-F.Bool b) = any
  choice_schema (Tree-F.Num lexeme) = any
  choice_schema (Tree-F.Str text) = any
  choice_schema (Tree-F.Array xs) = schema_in xs
  choice_schema (Tree-F.Object d) = node_in d.members

  -- a choice of a union
  abbrev pub choice_in : Tree-F X → Choice
  choice_in x = record { label = label_in (items_at x); schema = choice_schema x }

  -- an object with these members as a field
  abbrev pub field_in : List (List ℕ × X) → Field
  field_in ms = field (tree_at tree ms) (part_at ms)

  -- a level as each kind; what is no object is taken as one without members, and so with lists
  abbrev pub level_made : Tree-F X → (k : Kind) → MadeAs k
  level_made x (kind.Value v) = tt
  level_made x kind.Schema = node_in (or_empty (members_at x))
  level_made x kind.Schemas = nodes_in (or_empty (items_at x))
  level_made x kind.Choices = choices_in (or_empty (items_at x))
  level_made x kind.Choice = choice_in x
  level_made x kind.Tagged = named_in kind.Schema (or_empty (members_at x))
  level_made x kind.Definitions = definitions_in (or_empty (items_at x))
  level_made x kind.Definition = node_in (or_empty (members_at x))
  level_made x (kind.Fields k) = fields_in k (or_empty (members_at x))
  level_made x (kind.Field k) = field_in (or_empty (members_at x))
  level_made x kind.Config = settings (tree_at tree (or_empty (members_at x)))
  level_made x kind.NotBuilt = tt

-- a tree as each kind
pub record Made : Type 1 where
  pub as_kind : (k : Kind) → MadeAs k

-- one level
abbrev pub make_step : (X : Type 0) → (X → Tree) → (X → Made) → Tree-F X → Made
make_step X tree inner x = record { as_kind = level_made tree (λ y. (inner y).as_kind) x }

-- what a tree is made to be, as each kind
abbrev pub all_made : Tree → Made
all_made = rec-Tree Made make_step

-- what a tree is made to be as a kind
unfoldable pub made : Tree → (k : Kind) → MadeAs k
made t k = (all_made t).as_kind k

-- the schema that a tree is
abbrev pub node_of : Tree → Node
node_of t = made t kind.Schema
