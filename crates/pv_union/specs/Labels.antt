-- The labels of nodes, which stand in front of the errors of a union's members.
use Rattle.std.specs.Prelude.{ℕ, ◌+◌, Bool, nat_eq, if◌then◌else◌, List, [], ◌∷◌, ◌++◌, codes, drop, Option, None, Some}
use Rattle.pv_rules.specs.declared.Collection.{Collection}
use Rattle.pv_rules.specs.declared.Collection.TheVariants as collection
use Rattle.pv_rules.specs.declared.FieldsKind.{FieldsKind}
use Rattle.pv_rules.specs.declared.FieldsKind.TheVariants as fields
use Rattle.pv_rules.specs.declared.ScalarRule.{ScalarRule}
use Rattle.pv_rules.specs.declared.ScalarRule.TheVariants as rule
use Rattle.pv_node.specs.declared.Body.TheOpen.{Body-F, Node-F}
use Rattle.pv_node.specs.declared.Node.{Node, fold-Node}

-- texts with this one between them
abbrev pub joined_by : List ℕ → List (List ℕ) → List ℕ
joined_by between [] = []
joined_by between (text ∷ []) = text
joined_by between (text ∷ next ∷ texts) = text ++ between ++ joined_by between (next ∷ texts)

-- a word, and these in brackets
abbrev pub bracketed : List ℕ → List ℕ → List ℕ
bracketed word inner = word ++ codes "[" ++ inner ++ codes "]"

-- a type without child schemas: its word, of an enum its class
abbrev pub rule_label : ScalarRule → List ℕ
rule_label rule.Any = codes "any"
rule_label rule.None = codes "none"
rule_label rule.Bool = codes "bool"
rule_label (rule.Int r) = codes "int"
rule_label (rule.Str r) = codes "str"
rule_label (rule.Bytes r) = codes "bytes"
rule_label (rule.Uuid version) = codes "uuid"
rule_label (rule.Url r) = codes "url"
rule_label (rule.Literal values) = codes "literal"
rule_label (rule.Enum r) = r.cls

-- the word of a collection
abbrev pub collection_word : Collection → List ℕ
collection_word collection.List = codes "list"
collection_word collection.Tuple = codes "tuple"
collection_word collection.Set = codes "set"
collection_word collection.Frozen = codes "frozenset"
collection_word collection.Dict = codes "dict"

-- the word of a list of fields
abbrev pub fields_word : FieldsKind → List ℕ
fields_word fields.Model = codes "model-fields"
fields_word fields.TypedDict = codes "typed-dict"

-- whether a position is the variadic one
abbrev pub is_variadic : Option ℕ → ℕ → Bool
is_variadic None i = Bool.false
is_variadic (Some v) i = nat_eq v i

-- what stands behind the label of a position
abbrev pub after_position : Option ℕ → ℕ → List ℕ
after_position variadic i = if is_variadic variadic i then codes ", ..." else []

module _ {Y : Type 0} (inner : Y → List ℕ) where
  -- the label of a child schema; an absent one takes any value
  abbrev pub label_at : Option Y → List ℕ
  label_at None = codes "any"
  label_at (Some y) = inner y

  -- the labels of positions from position i on
  abbrev pub position_labels : Option ℕ → ℕ → List Y → List (List ℕ)
  position_labels variadic i [] = []
  position_labels variadic i (y ∷ ys) =
      (inner y ++ after_position variadic i) ∷ position_labels variadic (i + 1) ys

  -- of each kind of node
  abbrev pub body_label : {X : Type 0} → Body-F X Y → List ℕ
  body_label (Body-F.Scalar r) = rule_label r
  body_label (Body-F.Sequence r items) = bracketed (collection_word r.kind) (label_at items)
  body_label (Body-F.Tuple r items) =
      bracketed (codes "tuple")
      (joined_by (codes ", ") (position_labels r.variadic_item_index 0 items))
  body_label (Body-F.Dict r keys values) =
      bracketed (codes "dict") (label_at keys ++ codes "," ++ label_at values)
  body_label (Body-F.Nullable schema) = bracketed (codes "nullable") (inner schema)
  body_label (Body-F.Fields r schemas extras config cls) = fields_word r.kind
  body_label (Body-F.Model cls root config schema) = cls
  body_label (Body-F.Default default validate on_error schema) = inner schema
  body_label (Body-F.Union r choices) = codes "union"
  body_label (Body-F.TaggedUnion r choices) = codes "tagged-union"
  body_label (Body-F.LaxOrStrict lax strict) = codes "lax-or-strict"
  body_label (Body-F.JsonOrPython json) = inner json
  body_label (Body-F.CustomError kind message schema) = inner schema
  body_label (Body-F.Before r schema) = inner schema
  body_label (Body-F.After r schema) = inner schema
  body_label (Body-F.Wrap r schema) = inner schema
  body_label (Body-F.Plain r) = codes "function-plain"
  body_label (Body-F.Definitions schema definitions) = inner schema
  body_label (Body-F.DefinitionRef name) = name

-- of a body, by the labels of its child schemas
abbrev pub body_step : Body-F (List ℕ) (List ℕ) → List ℕ
body_step b = body_label (λ inner. inner) b

-- of a node, by that of its body
abbrev pub node_step : Node-F (List ℕ) (List ℕ) → List ℕ
node_step n = n.body

-- the label of a node
unfoldable pub label : Node → List ℕ
label = fold-Node (List ℕ) (List ℕ) body_step node_step

-- the label of a choice: its own where it has one, else that of its node
abbrev pub choice_label : List (Option (List ℕ)) → Node → List ℕ
choice_label (Some own ∷ owns) n = own
choice_label (None ∷ owns) n = label n
choice_label [] n = label n

-- the labels of all choices
abbrev pub choice_labels : List (Option (List ℕ)) → List Node → List (List ℕ)
choice_labels owns [] = []
choice_labels owns (n ∷ ns) = choice_label owns n ∷ choice_labels (drop 1 owns) ns
