-- The choices of unions and of tagged unions.
use Rattle.std.specs.Prelude.{ℕ, List, [], map, Option, unwrap_or}
use Rattle.pv_tree.specs.Names.{names}
use Rattle.pv_rules.specs.declared.AliasRule.{AliasRule}
use Rattle.pv_rules.specs.declared.TagRule.{TagRule}
use Rattle.pv_rules.specs.declared.UnionMode.{UnionMode}
use Rattle.pv_rules.specs.declared.UnionMode.TheVariants as mode
use Rattle.pv_rules.specs.declared.UnionRule.{UnionRule}
use Rattle.pv_node.specs.declared.Node.{Node}

-- a choice of a union: the label that is written for it, and its schema
pub record Choice : Type 0 where
  pub label : Option (List ℕ)
  pub schema : Node

-- the labels of some choices
abbrev pub labels : List Choice → List (Option (List ℕ))
labels cs = map (λ c. c.label) cs

-- their schemas
abbrev pub choice_schemas : List Choice → List Node
choice_schemas cs = map (λ c. c.schema) cs

-- the rule of a union
abbrev pub union_rule : Option UnionMode → List Choice → UnionRule
union_rule m cs = record { mode = unwrap_or m mode.Smart; labels = labels cs }

-- an alias that is absent: it has no paths
abbrev pub no_alias : AliasRule
no_alias = record { paths = [] }

-- the rule of a tagged union, by its choices under their tags
abbrev pub tag_rule : Option AliasRule → List (List ℕ × Node) → TagRule
tag_rule discriminator cs = record {
  discriminator = unwrap_or discriminator no_alias;
  tags = names cs;
}

-- the schemas of such choices
abbrev pub tagged_schemas : List (List ℕ × Node) → List Node
tagged_schemas cs = map (λ c. c.1) cs
