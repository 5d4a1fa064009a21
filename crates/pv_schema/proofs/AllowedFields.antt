-- Fields in which nothing is wrong: their names, their rules and their schemas.
use Rattle.std.proofs.Common.{◌≡◌, ℕ, suc, Bool, true, List, [], ◌∷◌, ◌++◌, map, length, Option, None, flat_map, refl, ap, sym, ◌∙◌, subst, bytes_eq}
use Rattle.std.proofs.lemmas.Grind.{flat_map-append}
use Rattle.std.specs.List.{AllByRecursion, IsDistinct}
use Rattle.std.specs.Option.{IfSome}
use Rattle.pv_rules.specs.declared.ExtraBehavior.{ExtraBehavior}
use Rattle.pv_rules.specs.declared.FieldRule.{FieldRule}
use Rattle.pv_rules.specs.declared.FieldsKind.{FieldsKind}
use Rattle.pv_rules.specs.declared.FieldsKind.TheVariants as fields
use Rattle.pv_rules.specs.declared.Settings.{Settings}
use Rattle.pv_node.specs.declared.Node.{Node}
use Rattle.pv_node.specs.Places.{field_path, field_slots, extras_slots}
use Rattle.pv_node.specs.declared.Edge.TheVariants.{Enters}
use Rattle.pv_node.proofs.Written.{listed_then, extras_written}
use Rattle.pv_node.specs.Preorder.{preorder, optional, written}
use Rattle.pv_schema.specs.Fields.{Field, is_required, field_rules, fields_rule, field_schemas}
use Rattle.pv_rules.specs.Allowed.{IsFieldOf, AreFields, AreSettings}
use Rattle.pv_node.specs.Allowed.{IsAllowed}
use Rattle.pv_schema.proofs.AllowedKeys.{IsAllowedField, AreAllowedFields, each_append}

module _ (k : FieldsKind) (total : Option Bool) where
  names_kept : (fs : List (List ℕ × Field)) → map (λ r. r.name) (field_rules k total fs) ≡ map (λ f. f.0) fs
  names_kept [] = refl
  names_kept (f ∷ fs) = ap (λ names. f.0 ∷ names) (names_kept fs)

  needed : (own : Option Bool) → k ≡ fields.Model → is_required k total own ≡ true
  needed own e = ap (λ a. is_required a total own) e

  rules_are : (fs : List (List ℕ × Field)) → AllByRecursion (λ f. IsAllowedField f.1) fs → AllByRecursion (IsFieldOf k) (field_rules k total fs)
  rules_are [] h = tt
  rules_are (f ∷ fs) h = (record { alias = (h.0).alias; required = needed ((f.1).keys).required }, rules_are fs h.1)

  counted : (fs : List (List ℕ × Field)) → length (field_schemas fs) ≡ length (field_rules k total fs)
  counted [] = refl
  counted (f ∷ fs) = ap suc (counted fs)

  pub are_fields : (behavior : Option ExtraBehavior) (fs : List (List ℕ × Field)) (config : Option Settings) (cls : Option (List ℕ))
      → AreAllowedFields fs → IfSome config AreSettings → (k ≡ fields.Model → (config ≡ None) × (cls ≡ None))
      → AreFields (fields_rule k total behavior fs) (length (field_schemas fs)) config cls
  are_fields behavior fs config cls h settings of_model = record {
    names = subst (IsDistinct bytes_eq) (sym (names_kept fs)) h.names;
    schemas = counted fs;
    each = rules_are fs h.each;
    config = settings;
    of_model = of_model;
  }

schemas_are : (fs : List (List ℕ × Field)) → AllByRecursion (λ f. IsAllowedField f.1) fs → AllByRecursion IsAllowed (flat_map preorder (field_schemas fs))
schemas_are [] h = tt
schemas_are (f ∷ fs) h = each_append IsAllowed (preorder (f.1).schema) (flat_map preorder (field_schemas fs)) (h.0).schema (schemas_are fs h.1)

pub nodes_are : (rs : List FieldRule) (fs : List (List ℕ × Field)) (extras : Option Node) → AreAllowedFields fs
    → AllByRecursion IsAllowed (flat_map preorder (optional extras))
    → AllByRecursion IsAllowed (flat_map preorder (written (field_slots rs (field_schemas fs) ++ extras_slots extras)))
nodes_are rs fs extras h k =
    subst (λ ns. AllByRecursion IsAllowed (flat_map preorder ns))
    (sym (listed_then (field_path rs) Enters 0 (field_schemas fs) (extras_slots extras) ∙ ap (λ ns. field_schemas fs ++ ns) (extras_written extras)))
    (subst (AllByRecursion IsAllowed) (sym (flat_map-append preorder (field_schemas fs) (optional extras)))
    (each_append IsAllowed _ _ (schemas_are fs h.each) k))
