-- Choices in which nothing is wrong: their rules and their schemas.
use Rattle.std.proofs.Common.{◌≡◌, ℕ, ◌<◌, true, List, [], ◌∷◌, length, Option, None, Some, is_some, flat_map, sym, ◌∙◌, subst}
use Rattle.std.proofs.lemmas.Bool.{false≢true}
use Rattle.std.proofs.lemmas.List.{length-map}
use Rattle.std.specs.Prelude.{unwrap_or}
use Rattle.std.specs.List.{AllByRecursion}
use Rattle.std.specs.Option.{IfSome}
use Rattle.pv_rules.specs.Allowed.{IsAlias, IsUnion, IsTagged}
use Rattle.pv_rules.specs.declared.AliasRule.{AliasRule}
use Rattle.pv_rules.specs.declared.UnionMode.{UnionMode}
use Rattle.pv_node.specs.Allowed.{IsAllowed}
use Rattle.pv_node.specs.Preorder.{preorder}
use Rattle.pv_node.specs.declared.Node.{Node}
use Rattle.pv_schema.specs.Choices.{Choice, choice_schemas, no_alias, tag_rule, tagged_schemas, union_rule}
use Rattle.pv_schema.proofs.AllowedKeys.{AreAllowedChoices, AreAllowedTagged, each_append}

pub is_union : (mode : Option UnionMode) (cs : List Choice) → AreAllowedChoices cs → IsUnion (union_rule mode cs) (length (choice_schemas cs))
is_union mode cs h = record {
  some = subst (λ n. 0 < n) (sym (length-map cs (λ c. c.schema))) h.some;
  labels = length-map cs (λ c. c.label) ∙ sym (length-map cs (λ c. c.schema));
}

pub schemas_are : (cs : List Choice) → AllByRecursion (λ c. AllByRecursion IsAllowed (preorder c.schema)) cs
    → AllByRecursion IsAllowed (flat_map preorder (choice_schemas cs))
schemas_are [] h = tt
schemas_are (c ∷ cs) h = each_append IsAllowed (preorder c.schema) (flat_map preorder (choice_schemas cs)) h.0 (schemas_are cs h.1)

alias_there : (a : Option AliasRule) → is_some a ≡ true → IfSome a IsAlias → IsAlias (unwrap_or a no_alias)
alias_there None is h = absurd (false≢true is)
alias_there (Some a) is h = h

pub is_tagged : (a : Option AliasRule) (cs : List (List ℕ × Node)) → AreAllowedTagged cs → is_some a ≡ true → IfSome a IsAlias
    → IsTagged (tag_rule a cs) (length (tagged_schemas cs))
is_tagged a cs h is k = record {
  some = subst (λ n. 0 < n) (sym (length-map cs (λ c. c.1))) h.some;
  tags = length-map cs (λ c. c.0) ∙ sym (length-map cs (λ c. c.1));
  are_distinct = h.names;
  discriminator = alias_there a is k;
}

pub tagged_are : (cs : List (List ℕ × Node)) → AllByRecursion (λ c. AllByRecursion IsAllowed (preorder c.1)) cs
    → AllByRecursion IsAllowed (flat_map preorder (tagged_schemas cs))
tagged_are [] h = tt
tagged_are (c ∷ cs) h = each_append IsAllowed (preorder c.1) (flat_map preorder (tagged_schemas cs)) h.0 (tagged_are cs h.1)
