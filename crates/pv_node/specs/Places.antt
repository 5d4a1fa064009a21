-- The places of a schema: where its nodes stand, each with the settings in force there. A node
-- comes before its child schemas, and these come in the order of their keys.
use Rattle.std.specs.Prelude.{ℕ, ◌+◌, Bool, false, if◌then◌else◌, List, [], ◌∷◌, ◌++◌, slice_get, codes, Option, Some, None, is_some, unwrap_or}
use Rattle.std.specs.List.{flat_map}
use Rattle.pv_tree.specs.declared.Step.{Step}
use Rattle.pv_tree.specs.declared.Step.TheVariants.{Name, Index}
use Rattle.pv_rules.specs.Settings.{plain}
use Rattle.pv_rules.specs.declared.FieldRule.{FieldRule}
use Rattle.pv_rules.specs.declared.ScalarRule.{ScalarRule}
use Rattle.pv_rules.specs.declared.Settings.{Settings}
use Rattle.pv_node.specs.declared.child_slot.Edge.{Edge}
use Rattle.pv_node.specs.declared.child_slot.Edge.TheVariants.{Enters, Stays, Absent}
use Rattle.pv_node.specs.declared.node.Node.{Node, out-Node, rec-Node}
use Rattle.pv_node.specs.declared.node.Body.{Body, out-Body}
use Rattle.pv_node.specs.declared.node.Body.TheOpen.{Body-F, Node-F}

-- the steps from a node to a place in it
abbrev pub Path : Type 0
Path = List Step

-- A slot of a node, for a child schema: the steps to it, how the node leads to it, and the node that
-- is written there.
pub record Slot (Y : Type 0) : Type 0 where
  pub path : Path
  pub edge : Edge
  pub node : Option Y

-- the name of a field, or the empty name where there is none
abbrev pub field_name : Option FieldRule → List ℕ
field_name None = []
field_name (Some rule) = rule.name

-- whether there is a choice, and it has a label
abbrev pub has_label : Option (Option (List ℕ)) → Bool
has_label None = false
has_label (Some label) = is_some label

-- the step into the pair that a choice with a label is
abbrev pub in_pair : Bool → Path
in_pair labelled = if labelled then Index 0 ∷ [] else []

-- the steps to a position of the list under a key
abbrev pub position_path : List ℕ → ℕ → Path
position_path key i = Name key ∷ Index i ∷ []

-- the steps to the schema of the field at a place
abbrev pub field_path : List FieldRule → ℕ → Path
field_path rules i =
    Name (codes "fields") ∷ Name (field_name (slice_get rules i)) ∷ Name (codes "schema") ∷ []

-- the steps to the choice at a place, by the labels
abbrev pub choice_path : List (Option (List ℕ)) → ℕ → Path
choice_path labels i =
    Name (codes "choices") ∷ Index i ∷ in_pair (has_label (slice_get labels i))

-- the steps to the choice at a place, by the tags
abbrev pub tag_path : List (List ℕ) → ℕ → Path
tag_path tags i = Name (codes "choices") ∷ Name (unwrap_or (slice_get tags i) []) ∷ []

module _ {Y : Type 0} where
  -- under a key, for parts of the input
  abbrev pub part_slot : List ℕ → Option Y → Slot Y
  part_slot key node = record { path = Name key ∷ []; edge = Enters; node = node }

  -- under a key, for the input itself
  abbrev pub whole_slot : List ℕ → Y → Slot Y
  whole_slot key node = record { path = Name key ∷ []; edge = Stays; node = Some node }

  -- for each of some nodes from a place on, by the steps to the one at a place
  abbrev pub listed : (ℕ → Path) → Edge → ℕ → List Y → List (Slot Y)
  listed path edge i [] = []
  listed path edge i (y ∷ ys) =
      record { path = path i; edge = edge; node = Some y } ∷ listed path edge (i + 1) ys

  -- for all items
  abbrev pub items_slot : Option Y → Slot Y
  items_slot node = part_slot (codes "items_schema") node

  -- for the items of all positions
  abbrev pub position_slots : List Y → List (Slot Y)
  position_slots nodes = listed (position_path (codes "items_schema")) Enters 0 nodes

  -- for the keys of all members
  abbrev pub keys_slot : Option Y → Slot Y
  keys_slot node = part_slot (codes "keys_schema") node

  -- for the values of all members
  abbrev pub values_slot : Option Y → Slot Y
  values_slot node = part_slot (codes "values_schema") node

  -- for the input itself
  abbrev pub inner_slot : Y → Slot Y
  inner_slot node = whole_slot (codes "schema") node

  -- for the values of all fields
  abbrev pub field_slots : List FieldRule → List Y → List (Slot Y)
  field_slots rules nodes = listed (field_path rules) Enters 0 nodes

  -- for the values of all keys that no field takes; where no schema is written, there is no slot
  abbrev pub extras_slots : Option Y → List (Slot Y)
  extras_slots None = []
  extras_slots (Some node) = part_slot (codes "extras_schema") (Some node) ∷ []

  -- for the input itself, for each choice of a union
  abbrev pub choice_slots : List (Option (List ℕ)) → List Y → List (Slot Y)
  choice_slots labels nodes = listed (choice_path labels) Stays 0 nodes

  -- the same of a tagged union
  abbrev pub tag_slots : List (List ℕ) → List Y → List (Slot Y)
  tag_slots tags nodes = listed (tag_path tags) Stays 0 nodes

  -- for schemas that are only written there
  abbrev pub definition_slots : List Y → List (Slot Y)
  definition_slots nodes = listed (position_path (codes "definitions")) Absent 0 nodes

-- the slots of each kind of node
abbrev pub slots : {X Y : Type 0} → Body-F X Y → List (Slot Y)
slots (Body-F.Scalar rule) = []
slots (Body-F.Sequence rule items) = items_slot items ∷ []
slots (Body-F.Tuple rule items) = position_slots items
slots (Body-F.Dict rule keys values) = keys_slot keys ∷ values_slot values ∷ []
slots (Body-F.Nullable inner) = inner_slot inner ∷ []
slots (Body-F.Fields rule fields extras config cls) =
    field_slots rule.fields fields ++ extras_slots extras
slots (Body-F.Model cls root config inner) = inner_slot inner ∷ []
slots (Body-F.Default default validate on_error inner) = inner_slot inner ∷ []
slots (Body-F.Union rule choices) = choice_slots rule.labels choices
slots (Body-F.TaggedUnion rule choices) = tag_slots rule.tags choices
slots (Body-F.LaxOrStrict lax strict) =
    whole_slot (codes "lax_schema") lax ∷ whole_slot (codes "strict_schema") strict ∷ []
slots (Body-F.JsonOrPython json) = whole_slot (codes "json_schema") json ∷ []
slots (Body-F.CustomError kind message inner) = inner_slot inner ∷ []
slots (Body-F.Before rule inner) = inner_slot inner ∷ []
slots (Body-F.After rule inner) = inner_slot inner ∷ []
slots (Body-F.Wrap rule inner) = inner_slot inner ∷ []
slots (Body-F.Plain rule) = []
slots (Body-F.Definitions inner definitions) = inner_slot inner ∷ definition_slots definitions
slots (Body-F.DefinitionRef name) = []

-- the settings that a node configures
abbrev pub config_at : {X Y : Type 0} → Body-F X Y → Option Settings
config_at (Body-F.Scalar rule) = None
config_at (Body-F.Sequence rule items) = None
config_at (Body-F.Tuple rule items) = None
config_at (Body-F.Dict rule keys values) = None
config_at (Body-F.Nullable inner) = None
config_at (Body-F.Fields rule fields extras config cls) = config
config_at (Body-F.Model cls root config inner) = config
config_at (Body-F.Default default validate on_error inner) = None
config_at (Body-F.Union rule choices) = None
config_at (Body-F.TaggedUnion rule choices) = None
config_at (Body-F.LaxOrStrict lax strict) = None
config_at (Body-F.JsonOrPython json) = None
config_at (Body-F.CustomError kind message inner) = None
config_at (Body-F.Before rule inner) = None
config_at (Body-F.After rule inner) = None
config_at (Body-F.Wrap rule inner) = None
config_at (Body-F.Plain rule) = None
config_at (Body-F.Definitions inner definitions) = None
config_at (Body-F.DefinitionRef name) = None

-- the rule of a node without child schemas
abbrev pub rule_of : {X Y : Type 0} → Body-F X Y → Option ScalarRule
rule_of (Body-F.Scalar rule) = Some rule
rule_of (Body-F.Sequence rule items) = None
rule_of (Body-F.Tuple rule items) = None
rule_of (Body-F.Dict rule keys values) = None
rule_of (Body-F.Nullable inner) = None
rule_of (Body-F.Fields rule fields extras config cls) = None
rule_of (Body-F.Model cls root config inner) = None
rule_of (Body-F.Default default validate on_error inner) = None
rule_of (Body-F.Union rule choices) = None
rule_of (Body-F.TaggedUnion rule choices) = None
rule_of (Body-F.LaxOrStrict lax strict) = None
rule_of (Body-F.JsonOrPython json) = None
rule_of (Body-F.CustomError kind message inner) = None
rule_of (Body-F.Before rule inner) = None
rule_of (Body-F.After rule inner) = None
rule_of (Body-F.Wrap rule inner) = None
rule_of (Body-F.Plain rule) = None
rule_of (Body-F.Definitions inner definitions) = None
rule_of (Body-F.DefinitionRef name) = None

-- what a node asks for, with its child schemas in it
abbrev pub body_of : Node → Body-F Body Node
body_of n = out-Body (out-Node n).body

-- the slots of a node
abbrev pub slots_of : Node → List (Slot Node)
slots_of n = slots (body_of n)

-- the settings in force in a node, by those in force around it
abbrev pub under : Node → Settings → Settings
under n s = unwrap_or (config_at (body_of n)) s

-- a node of a schema: the steps from the root to it, and the settings in force in it
pub record Place : Type 0 where
  pub path : Path
  pub node : Node
  pub settings : Settings

-- a node that stands at this path, these settings being in force around it
abbrev pub place_at : Path → Node → Settings → Place
place_at p n s = record { path = p; node = n; settings = under n s }

-- the places inside a node, by its path and by the settings in force in it
pub record Inside : Type 1 where
  pub places : Path → Settings → List Place

module _ {Y : Type 0} (node : Y → Node) (nodes : Y → Inside) where
  -- the node at a path, where one is written, and the places inside it
  abbrev pub held : Path → Settings → Option Y → List Place
  held p s None = []
  held p s (Some y) = place_at p (node y) s ∷ (nodes y).places p (under (node y) s)

  -- the same of a slot of the node at a path
  abbrev pub held_in : Path → Settings → Slot Y → List Place
  held_in p s slot = held (p ++ slot.path) s slot.node

-- those inside a body, by those inside its child schemas
abbrev pub body_step : (X Y : Type 0) → (X → Body) → (Y → Node) → (X → Inside) → (Y → Inside)
    → Body-F X Y → Inside
body_step X Y body node bodies nodes b = record {
  places = λ p s. flat_map (held_in node nodes p s) (slots b);
}

-- those inside a node, by those inside its body
abbrev pub node_step : (X Y : Type 0) → (X → Body) → (Y → Node) → (X → Inside) → (Y → Inside)
    → Node-F X Y → Inside
node_step X Y body node bodies nodes n = bodies n.body

-- those inside a node
abbrev pub inside_in : Node → Inside
inside_in = rec-Node Inside Inside body_step node_step

-- a node at this path, these settings being in force around it, and the places inside it
unfoldable pub places_of : Path → Node → Settings → List Place
places_of p n s = place_at p n s ∷ (inside_in n).places p (under n s)

-- the same where a node may be written
abbrev pub places_at : Path → Settings → Option Node → List Place
places_at p s None = []
places_at p s (Some n) = places_of p n s

-- the same of a slot of the node at a path
abbrev pub places_in : Path → Settings → Slot Node → List Place
places_in p s slot = places_at (p ++ slot.path) s slot.node

-- the place of a root
abbrev pub root_place : Node → Place
root_place root = place_at [] root plain

-- the places of a schema
abbrev pub places : Node → List Place
places root = places_of [] root plain
