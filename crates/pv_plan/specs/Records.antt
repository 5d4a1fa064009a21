-- Records that stand for the places of a schema.
use Rattle.std.specs.Prelude.{◌≡◌, ℕ, Bool, true, false, List, [], ◌∷◌, ◌++◌, map, slice_get, Option, Some, None, unwrap_or}
use Rattle.pv_rules.specs.Settings.{plain}
use Rattle.pv_rules.specs.declared.OnError.{OnError}
use Rattle.pv_rules.specs.declared.OnError.TheVariants as on_error
use Rattle.pv_rules.specs.declared.Settings.{Settings}
use Rattle.pv_rules.specs.declared.UnionMode.{UnionMode}
use Rattle.pv_rules.specs.declared.UnionMode.TheVariants as union_mode
use Rattle.pv_node.specs.Absent.{any}
use Rattle.pv_node.specs.declared.Node.{Node, out-Node}
use Rattle.pv_node.specs.declared.Body.TheOpen.{Body-F}
use Rattle.pv_node.specs.Places.{Path, Slot, Place, place_at, places, body_of, slots_of}
use Rattle.pv_node.specs.References.{place_named}
use Rattle.pv_union.specs.Labels.{choice_labels}
use Rattle.pv_references.specs.Targets.{reference_of}
use Rattle.pv_plan.specs.declared.record.Op.{Op}
use Rattle.pv_plan.specs.declared.record.Op.TheVariants as op
use Rattle.pv_plan.specs.declared.record.Record.{Record}

-- whether a default stands in where the inner schema fails
abbrev pub is_default : OnError → Bool
is_default on_error.Raise = false
is_default on_error.Default = true

-- whether a union takes the first of its choices that succeeds
abbrev pub is_left_to_right : UnionMode → Bool
is_left_to_right union_mode.Smart = false
is_left_to_right union_mode.LeftToRight = true

-- what a node does without its children, by the settings in force in it
abbrev pub op_of : {X : Type 0} → Settings → Body-F X Node → Op
op_of s (Body-F.Scalar r) = op.Scalar (r, s)
op_of s (Body-F.Sequence r items) = op.Gather r
op_of s (Body-F.Tuple r items) = op.Gather r
op_of s (Body-F.Dict r keys values) = op.Gather r
op_of s (Body-F.Nullable inner) = op.Nullable
op_of s (Body-F.Fields r fields extras config cls) = op.Fields (r, s)
op_of s (Body-F.Model cls root config inner) = op.Model cls root
op_of s (Body-F.Default default validates failing inner) = op.Default default (is_default failing)
op_of s (Body-F.Union r choices) =
    op.Union (choice_labels r.labels choices) (is_left_to_right r.mode)
op_of s (Body-F.TaggedUnion r choices) = op.TaggedUnion r
op_of s (Body-F.LaxOrStrict lax strict) = op.LaxOrStrict
op_of s (Body-F.JsonOrPython json) = op.Inner
op_of s (Body-F.CustomError kind message inner) = op.CustomError kind message
op_of s (Body-F.Before r inner) = op.Before r.function
op_of s (Body-F.After r inner) = op.After r.function
op_of s (Body-F.Wrap r inner) = op.Wrap r.function
op_of s (Body-F.Plain r) = op.Plain r.function
op_of s (Body-F.Definitions inner definitions) = op.Inner
op_of s (Body-F.DefinitionRef name) = op.Inner

-- the same of a place of a schema, whose record has this number
abbrev pub op_at : Node → Place → ℕ → Op
op_at root place number = op_of place.settings (body_of place.node)

-- whether a node is strict where the run does not say: by its key, else by the settings in force
abbrev pub own_strict : Place → Bool
own_strict place = unwrap_or (out-Node place.node).strict place.settings.strict

-- whether a node says that its default is validated
abbrev pub validates_at : {X Y : Type 0} → Body-F X Y → Option Bool
validates_at (Body-F.Scalar r) = None
validates_at (Body-F.Sequence r items) = None
validates_at (Body-F.Tuple r items) = None
validates_at (Body-F.Dict r keys values) = None
validates_at (Body-F.Nullable inner) = None
validates_at (Body-F.Fields r fields extras config cls) = None
validates_at (Body-F.Model cls root config inner) = None
validates_at (Body-F.Default default validates failing inner) = validates
validates_at (Body-F.Union r choices) = None
validates_at (Body-F.TaggedUnion r choices) = None
validates_at (Body-F.LaxOrStrict lax strict) = None
validates_at (Body-F.JsonOrPython json) = None
validates_at (Body-F.CustomError kind message inner) = None
validates_at (Body-F.Before r inner) = None
validates_at (Body-F.After r inner) = None
validates_at (Body-F.Wrap r inner) = None
validates_at (Body-F.Plain r) = None
validates_at (Body-F.Definitions inner definitions) = None
validates_at (Body-F.DefinitionRef name) = None

-- whether the default of a node is validated: by its key, else by the settings in force
abbrev pub own_validates : Place → Bool
own_validates place =
    unwrap_or (validates_at (body_of place.node)) place.settings.validate_default

-- the place that stands for absent schemas
abbrev pub any_place : Place
any_place = record { path = []; node = any; settings = plain }

-- the place at the end of a path from a place, or the one that stands for an absent schema
abbrev pub place_under : Place → Path → Option Node → Place
place_under place p None = any_place
place_under place p (Some n) = place_at (place.path ++ p) n place.settings

-- the place of a slot
abbrev pub child_at : Place → Slot Node → Place
child_at place slot = place_under place slot.path slot.node

-- a place, or the one that stands for an absent schema
abbrev pub place_or_any : Option Place → Place
place_or_any None = any_place
place_or_any (Some place) = place

-- the place of a schema that a name refers to; where no node has the name, the one that stands for
-- an absent schema
abbrev pub target : Node → List ℕ → Place
target root name = place_or_any (place_named root name)

-- the places that a place leads to, by the name that it refers to, where it is a reference
abbrev pub children_by : Node → Place → Option (List ℕ) → List Place
children_by root place None = map (child_at place) (slots_of place.node)
children_by root place (Some name) = target root name ∷ []

-- the places that a place of a schema leads to
abbrev pub children_of : Node → Place → List Place
children_of root place = children_by root place (reference_of (body_of place.node))

-- the places of a schema, and one more that stands for absent schemas
abbrev pub all_places : Node → List Place
all_places root = places root ++ any_place ∷ []

-- the record of this number does what the place does, and its numbers are those of the places that
-- the place leads to
pub record Fits (root : Node) (place : Place) (number : ℕ) (r : Record) : Type 0 where
  pub op : r.op ≡ op_at root place number
  pub children : map (slice_get (all_places root)) r.children ≡ map Some (children_of root place)
  pub strict : r.strict ≡ own_strict place
  pub validate_default : r.validate_default ≡ own_validates place

-- each record stands for the place of its number
unfoldable pub Stands : Node → List Record → Type 0
Stands root table =
    (i : ℕ) (place : Place) → slice_get (all_places root) i ≡ Some place
    → (r : Record) × (slice_get table i ≡ Some r) × Fits root place i r
