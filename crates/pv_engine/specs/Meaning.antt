-- What a schema means, by its own places: the outcome for a tree at a depth. Each place that is
-- entered takes one from the depth, and at depth 0 there is one error and nothing is looked at.
use Rattle.std.specs.Prelude.{ℕ, zero, suc, List, [], ◌∷◌, ◌++◌, map, codes, Option, None, Some}
use Rattle.pv_tree.specs.declared.Tree.{Tree}
use Rattle.pv_rules.specs.declared.FieldsRule.{FieldsRule}
use Rattle.pv_fault.specs.declared.Kind.TheVariants as kind
use Rattle.pv_fault.specs.declared.Outcome.{Outcome}
use Rattle.pv_fault.specs.Single.{one_error}
use Rattle.pv_node.specs.declared.Node.{Node}
use Rattle.pv_node.specs.declared.Body.{Body}
use Rattle.pv_node.specs.declared.Body.TheOpen.{Body-F}
use Rattle.pv_node.specs.Places.{Slot, Place, body_of, root_place, items_slot, position_slots, keys_slot, values_slot, inner_slot, whole_slot, field_slots, extras_slots, choice_slots, tag_slots}
use Rattle.pv_scalar.specs.Scalars.{scalar_of}
use Rattle.pv_plan.specs.Records.{child_at, own_strict, own_validates, is_default, is_left_to_right, target}
use Rattle.pv_union.specs.Labels.{choice_labels}
use Rattle.pv_func.specs.Functions.{before_named, after_named, plain_named, wrap_named}
use Rattle.pv_walk.specs.Rules.{collection, nullable}
use Rattle.pv_walk.specs.Fields.{missing_value, fields}
use Rattle.pv_walk.specs.Wrapping.{model, default}
use Rattle.pv_walk.specs.Unions.{union, tagged}
use Rattle.pv_walk.specs.Choices.{lax_or_strict, custom_error}
use Rattle.pv_walk.specs.Functions.{before, after, plain, wrap}
use Rattle.pv_walk.specs.Context.{Context, strict_in}

-- What stands in at a place where no tree is there, by what the places mean that it leads to.
module _ (child : Place → Tree → Outcome) where
  -- by the body of its node: the default of a default, by the place of its inner schema
  abbrev pub default_with : Place → Body-F Body Node → Option Outcome
  default_with q (Body-F.Default d validates failing inner) =
      Some (missing_value (own_validates q) (child (child_at q (inner_slot inner))) d)
  default_with q (Body-F.Scalar r) = None
  default_with q (Body-F.Sequence r items) = None
  default_with q (Body-F.Tuple r items) = None
  default_with q (Body-F.Dict r keys values) = None
  default_with q (Body-F.Nullable inner) = None
  default_with q (Body-F.Fields r schemas extras config cls) = None
  default_with q (Body-F.Model cls root_model config inner) = None
  default_with q (Body-F.Union r choices) = None
  default_with q (Body-F.TaggedUnion r choices) = None
  default_with q (Body-F.LaxOrStrict lax strict) = None
  default_with q (Body-F.JsonOrPython json) = None
  default_with q (Body-F.CustomError error_type message inner) = None
  default_with q (Body-F.Before r inner) = None
  default_with q (Body-F.After r inner) = None
  default_with q (Body-F.Wrap r inner) = None
  default_with q (Body-F.Plain r) = None
  default_with q (Body-F.Definitions inner definitions) = None
  default_with q (Body-F.DefinitionRef name) = None

  -- by the node of the place
  abbrev pub default_at : Place → Option Outcome
  default_at q = default_with q (body_of q.node)

-- A place of a schema, by the context of the run and what the places mean that it leads to.
module _ (run : Context) (child : Place → Tree → Outcome) (root : Node) (place : Place) where
  -- what the child schema of a slot means, or what stands for an absent one
  abbrev pub by_slot : Slot Node → Tree → Outcome
  by_slot slot = child (child_at place slot)

  -- what stands in at the child schema of a slot where no tree is there
  abbrev pub default_by_slot : Slot Node → Option Outcome
  default_by_slot slot = default_at child (child_at place slot)

  -- a list of fields, whose slots are those of the fields and then that of the extra members
  abbrev pub fields_by : FieldsRule → List (Slot Node) → Tree → Outcome
  fields_by r slots t =
      fields r place.settings (map by_slot slots) (map default_by_slot slots) t

  -- by the body of its node
  abbrev pub node_at : Body-F Body Node → Tree → Outcome
  node_at (Body-F.Scalar r) t = scalar_of r place.settings (strict_in run.strict (own_strict place)) t
  node_at (Body-F.Sequence r items) t = collection r (by_slot (items_slot items) ∷ []) t
  node_at (Body-F.Tuple r items) t = collection r (map by_slot (position_slots items)) t
  node_at (Body-F.Dict r keys values) t =
      collection r (by_slot (keys_slot keys) ∷ by_slot (values_slot values) ∷ []) t
  node_at (Body-F.Nullable inner) t = nullable (by_slot (inner_slot inner)) t
  node_at (Body-F.Fields r schemas extras config cls) t =
      fields_by r (field_slots r.fields schemas ++ extras_slots extras) t
  node_at (Body-F.Model cls root_model config inner) t =
      model cls root_model (by_slot (inner_slot inner)) t
  node_at (Body-F.Default d validates failing inner) t =
      default (is_default failing) (own_validates place) (by_slot (inner_slot inner)) d t
  node_at (Body-F.Union r choices) t =
      union (is_left_to_right r.mode) (choice_labels r.labels choices)
      (map by_slot (choice_slots r.labels choices)) t
  node_at (Body-F.TaggedUnion r choices) t = tagged r (map by_slot (tag_slots r.tags choices)) t
  node_at (Body-F.LaxOrStrict lax strict) t =
      lax_or_strict (strict_in run.strict (own_strict place))
      (by_slot (whole_slot (codes "lax_schema") lax))
      (by_slot (whole_slot (codes "strict_schema") strict)) t
  node_at (Body-F.JsonOrPython json) t = by_slot (whole_slot (codes "json_schema") json) t
  node_at (Body-F.CustomError error_type message inner) t =
      custom_error error_type message (by_slot (inner_slot inner)) t
  node_at (Body-F.Before r inner) t =
      before (before_named run.functions r.function) (by_slot (inner_slot inner)) t
  node_at (Body-F.After r inner) t =
      after (after_named run.functions r.function) (by_slot (inner_slot inner)) t
  node_at (Body-F.Wrap r inner) t =
      wrap (wrap_named run.functions r.function) (by_slot (inner_slot inner)) t
  node_at (Body-F.Plain r) t = plain (plain_named run.functions r.function) t
  node_at (Body-F.Definitions inner definitions) t = by_slot (inner_slot inner) t
  node_at (Body-F.DefinitionRef name) t = child (target root name) t

  -- by its node
  unfoldable pub node : Tree → Outcome
  node t = node_at (body_of place.node) t

-- a place of a schema, to this depth
unfoldable pub meaning_at : Context → Node → ℕ → Place → Tree → Outcome
meaning_at run root zero place t = one_error kind.RecursionLoop t
meaning_at run root (suc d) place t = node run (meaning_at run root d) root place t

-- a schema, to this depth
abbrev pub meaning : Context → ℕ → Node → Tree → Outcome
meaning run d root t = meaning_at run root d (root_place root) t

-- the depth at which the root is entered
abbrev pub full_depth : ℕ
full_depth = 1000
