-- The rules of nodes, by the trees under their keys.
use Rattle.std.specs.Prelude.{ℕ, Option, None}
use Rattle.pv_tree.specs.declared.Tree.{Tree}
use Rattle.pv_rules.specs.declared.IntRule.{IntRule}
use Rattle.pv_rules.specs.declared.StrRule.{StrRule}
use Rattle.pv_rules.specs.declared.BytesRule.{BytesRule}
use Rattle.pv_rules.specs.declared.UrlRule.{UrlRule}
use Rattle.pv_rules.specs.declared.EnumRule.{EnumRule}
use Rattle.pv_rules.specs.declared.GatherRule.{GatherRule}
use Rattle.pv_rules.specs.declared.Collection.{Collection}
use Rattle.pv_rules.specs.declared.Collection.TheVariants as collection
use Rattle.pv_rules.specs.declared.FuncRule.{FuncRule}
use Rattle.pv_schema_values.specs.Values.{text_of, flag_of, int_of, count_of, positive_of}
use Rattle.pv_schema_values.specs.Values.{texts_of, members_of, sub_type_of, function_of}
use Rattle.pv_schema.specs.Written.{read, or_empty}
use Rattle.pv_schema_table.specs.declared.Key.{Key}
use Rattle.pv_schema_table.specs.declared.Key.TheVariants as key

module _ (at : Key → Option Tree) where
  -- of an int
  abbrev pub int_rule : IntRule
  int_rule = record {
    multiple_of = read positive_of (at key.MultipleOf);
    le = read int_of (at key.Le);
    lt = read int_of (at key.Lt);
    ge = read int_of (at key.Ge);
    gt = read int_of (at key.Gt);
  }

  -- of a text
  abbrev pub str_rule : StrRule
  str_rule = record {
    min_length = read count_of (at key.MinLength);
    max_length = read count_of (at key.MaxLength);
    pattern = read text_of (at key.Pattern);
    strip_whitespace = read flag_of (at key.StripWhitespace);
  }

  -- of bytes
  abbrev pub bytes_rule : BytesRule
  bytes_rule = record {
    min_length = read count_of (at key.MinLength);
    max_length = read count_of (at key.MaxLength);
  }

  -- of a URL
  abbrev pub url_rule : UrlRule
  url_rule = record {
    max_length = read count_of (at key.MaxLength);
    allowed_schemes = read texts_of (at key.AllowedSchemes);
  }

  -- of an enum
  abbrev pub enum_rule : EnumRule
  enum_rule = record {
    cls = or_empty (read text_of (at key.Cls));
    members = or_empty (read members_of (at key.Members));
    sub_type = read sub_type_of (at key.SubType);
  }

  -- of a list, a set, a frozenset or a dict
  abbrev pub gather_rule : Collection → GatherRule
  gather_rule kind = record {
    kind = kind;
    positions = 0;
    variadic_item_index = None;
    min_length = read count_of (at key.MinLength);
    max_length = read count_of (at key.MaxLength);
  }

  -- of a tuple with so many positions
  abbrev pub tuple_rule : ℕ → GatherRule
  tuple_rule positions = record {
    kind = collection.Tuple;
    positions = positions;
    variadic_item_index = read count_of (at key.VariadicItemIndex);
    min_length = read count_of (at key.MinLength);
    max_length = read count_of (at key.MaxLength);
  }

  -- of a function
  abbrev pub func_rule : FuncRule
  func_rule = record { function = or_empty (read function_of (at key.Function)) }
