-- The rules that tests stand for.
use Rattle.pv_rules.specs.declared.StrRule.{StrRule}
use Rattle.pv_rules.specs.declared.UrlRule.{UrlRule}
use Rattle.pv_rules.specs.declared.EnumRule.{EnumRule}
use Rattle.pv_scalar.specs.declared.texts.StrTests.{StrTests}
use Rattle.pv_scalar.specs.declared.formats.UrlTests.{UrlTests}
use Rattle.pv_scalar.specs.declared.enums.EnumTests.{EnumTests}

-- the rule of tests of a text
abbrev pub str_rule : StrTests → StrRule
str_rule tests = record {
  min_length = tests.min_length;
  max_length = tests.max_length;
  pattern = tests.pattern;
  strip_whitespace = tests.strip_whitespace;
}

-- the rule of tests of a URL
abbrev pub url_rule : UrlTests → UrlRule
url_rule tests = record { max_length = tests.max_length; allowed_schemes = tests.allowed_schemes }

-- the rule of tests of an enum
abbrev pub enum_rule : EnumTests → EnumRule
enum_rule tests = record { cls = tests.cls; members = tests.members; sub_type = tests.sub_type }
