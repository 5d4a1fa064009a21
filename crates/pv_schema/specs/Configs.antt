-- The settings that a config is.
use Rattle.std.specs.Prelude.{ℕ, Bool, true, false, ◌||◌, List, Option, unwrap_or}
use Rattle.std.specs.Option.{option_or}
use Rattle.pv_tree.specs.declared.Tree.{Tree}
use Rattle.pv_rules.specs.declared.ExtraBehavior.TheVariants as behavior
use Rattle.pv_rules.specs.declared.Settings.{Settings}
use Rattle.pv_schema_values.specs.Values.{text_of, flag_of, count_of, extra_behavior_of}
use Rattle.pv_schema_values.specs.Values.{is_false}
use Rattle.pv_schema.specs.Written.{read, flag_or}
use Rattle.pv_schema_table.specs.declared.Key.{Key}
use Rattle.pv_schema_table.specs.declared.Key.TheVariants as key

-- by the trees under the keys
module _ (at : Key → Option Tree) where
  -- whether a field is read by its name where this is not written: where the names or no aliases
  -- are asked for
  abbrev pub by_name : Bool
  by_name =
      flag_or false (at key.PopulateByName) || is_false (read flag_of (at key.ValidateByAlias))

  -- of a config, without a title where none is written
  abbrev pub settings : Settings
  settings = record {
    title = read text_of (at key.Title);
    strict = flag_or false (at key.Strict);
    extra_fields_behavior =
        unwrap_or (read extra_behavior_of (at key.ExtraFieldsBehavior)) behavior.Ignore;
    populate_by_name = flag_or false (at key.PopulateByName);
    validate_by_alias = flag_or true (at key.ValidateByAlias);
    validate_by_name = flag_or by_name (at key.ValidateByName);
    serialize_by_alias = flag_or false (at key.SerializeByAlias);
    loc_by_alias = flag_or true (at key.LocByAlias);
    validate_default = flag_or false (at key.ValidateDefault);
    str_strip_whitespace = flag_or false (at key.StrStripWhitespace);
    str_min_length = read count_of (at key.StrMinLength);
    str_max_length = read count_of (at key.StrMaxLength);
  }

-- settings whose title is the name of a class where none is written
abbrev pub titled : Option (List ℕ) → Settings → Settings
titled cls s = record s { title = option_or s.title cls }
