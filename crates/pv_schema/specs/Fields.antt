-- The fields of models and typed dicts.
use Rattle.std.specs.Prelude.{ℕ, Bool, true, false, List, map, Option, unwrap_or}
use Rattle.pv_tree.specs.declared.Tree.{Tree}
use Rattle.pv_rules.specs.declared.AliasRule.{AliasRule}
use Rattle.pv_rules.specs.declared.ExtraBehavior.{ExtraBehavior}
use Rattle.pv_rules.specs.declared.FieldRule.{FieldRule}
use Rattle.pv_rules.specs.declared.FieldsRule.{FieldsRule}
use Rattle.pv_rules.specs.declared.FieldsKind.{FieldsKind}
use Rattle.pv_rules.specs.declared.FieldsKind.TheVariants as fields
use Rattle.pv_node.specs.declared.Node.{Node}
use Rattle.pv_schema_values.specs.Values.{text_of, flag_of, alias_of}
use Rattle.pv_schema.specs.Written.{read, flag_or}
use Rattle.pv_schema_table.specs.declared.Key.{Key}
use Rattle.pv_schema_table.specs.declared.Key.TheVariants as key

-- what is written of a field of a model or of a typed dict, apart from its schema
pub record FieldKeys : Type 0 where
  pub validation_alias : Option AliasRule
  pub serialization_alias : Option (List ℕ)
  pub serialization_exclude : Bool
  pub required : Option Bool

-- a field with its schema
pub record Field : Type 0 where
  pub keys : FieldKeys
  pub schema : Node

-- by the trees under the keys
module _ (at : Key → Option Tree) where
  -- what is written of a field
  abbrev pub written_field : FieldKeys
  written_field = record {
    validation_alias = read alias_of (at key.ValidationAlias);
    serialization_alias = read text_of (at key.SerializationAlias);
    serialization_exclude = flag_or false (at key.SerializationExclude);
    required = read flag_of (at key.Required);
  }

-- whether a field has to be given: of a model each; of a typed dict by its own word, by that of the
-- typed dict, or else each
abbrev pub is_required : FieldsKind → Option Bool → Option Bool → Bool
is_required fields.Model total own = true
is_required fields.TypedDict total own = unwrap_or own (unwrap_or total true)

-- the rule of a field of this name
abbrev pub field_rule : FieldsKind → Option Bool → List ℕ → FieldKeys → FieldRule
field_rule k total name f = record {
  name = name;
  validation_alias = f.validation_alias;
  serialization_alias = f.serialization_alias;
  serialization_exclude = f.serialization_exclude;
  required = is_required k total f.required;
}

-- the rules of some fields
abbrev pub field_rules : FieldsKind → Option Bool → List (List ℕ × Field) → List FieldRule
field_rules k total fs = map (λ f. field_rule k total f.0 (f.1).keys) fs

-- the rule of a list of fields
abbrev pub fields_rule : FieldsKind → Option Bool → Option ExtraBehavior → List (List ℕ × Field)
    → FieldsRule
fields_rule k total behavior fs = record {
  kind = k;
  fields = field_rules k total fs;
  extra_behavior = behavior;
}

-- the schemas of a list of fields
abbrev pub field_schemas : List (List ℕ × Field) → List Node
field_schemas fs = map (λ f. (f.1).schema) fs
