-- The rule that a built scalar stands for.
use Rattle.pv_rules.specs.declared.ScalarRule.{ScalarRule}
use Rattle.pv_rules.specs.declared.ScalarRule.TheVariants as rule
use Rattle.pv_scalar.specs.declared.built.Body.{Body}
use Rattle.pv_scalar.specs.declared.built.Body.TheVariants as body
use Rattle.pv_scalar.specs.TestRules.{str_rule, url_rule, enum_rule}

-- by its body
abbrev pub rule_of : Body → ScalarRule
rule_of body.Any = rule.Any
rule_of body.None = rule.None
rule_of body.Bool = rule.Bool
rule_of (body.Int r) = rule.Int r
rule_of (body.Str tests) = rule.Str (str_rule tests)
rule_of (body.Bytes r) = rule.Bytes r
rule_of (body.Uuid version) = rule.Uuid version
rule_of (body.Url tests) = rule.Url (url_rule tests)
rule_of (body.Literal values) = rule.Literal values
rule_of (body.Enum tests) = rule.Enum (enum_rule tests)
