-- The settings of nodes that nothing configures: every behaviour as it is by itself.
use Rattle.std.specs.Prelude.{true, false, None}
use Rattle.pv_rules.specs.declared.settings.Settings.{Settings}
use Rattle.pv_rules.specs.declared.settings.ExtraBehavior.TheVariants.{Ignore}

-- the settings of a node that no model and no typed dict configures
abbrev pub plain : Settings
plain = record {
  title = None;
  strict = false;
  extra_fields_behavior = Ignore;
  populate_by_name = false;
  validate_by_alias = true;
  validate_by_name = false;
  serialize_by_alias = false;
  loc_by_alias = true;
  validate_default = false;
  str_strip_whitespace = false;
  str_min_length = None;
  str_max_length = None;
}
