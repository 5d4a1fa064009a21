-- The paths of a field: where its value is looked for, and where its errors stand.
use Rattle.std.specs.Prelude.{ℕ, Bool, true, false, ◌||◌, List, [], ◌∷◌, ◌++◌, if◌then◌else◌, slice_get, Option, None, Some}
use Rattle.pv_tree.specs.declared.Step.{Step}
use Rattle.pv_tree.specs.declared.Step.TheVariants.{Name}
use Rattle.pv_rules.specs.declared.AliasRule.{AliasRule}
use Rattle.pv_rules.specs.declared.ExtraBehavior.{ExtraBehavior}
use Rattle.pv_rules.specs.declared.FieldRule.{FieldRule}
use Rattle.pv_rules.specs.declared.FieldsRule.{FieldsRule}
use Rattle.pv_rules.specs.declared.Settings.{Settings}

-- the path of one step, a name
abbrev pub named : List ℕ → List Step
named name = Name name ∷ []

-- the settings read fields by their names too
abbrev pub reads_by_name : Settings → Bool
reads_by_name s = s.populate_by_name || s.validate_by_name

-- these paths, where they count
abbrev pub paths_if : Bool → List (List Step) → List (List Step)
paths_if counts paths = if counts then paths else []

-- by the alias of the field, where it has one
abbrev pub paths_by : Settings → List ℕ → Option AliasRule → List (List Step)
paths_by s name None = named name ∷ []
paths_by s name (Some alias) =
    paths_if s.validate_by_alias alias.paths ++ paths_if (reads_by_name s) (named name ∷ [])

-- The paths of a field, in their order: of one without an alias its name alone, else those of the
-- alias where the settings read by alias, and then the name where they read by name.
abbrev pub paths_of : Settings → FieldRule → List (List Step)
paths_of s f = paths_by s f.name f.validation_alias

-- the path, where there is one, else the name
abbrev pub path_or_name : List ℕ → Option (List Step) → List Step
path_or_name name None = named name
path_or_name name (Some path) = path

-- where the settings tell places by paths, the path; else the name
abbrev pub located : Bool → List ℕ → Option (List Step) → List Step
located true name path = path_or_name name path
located false name path = named name

-- what stands in front of the errors of a field that was found at the path of this number
abbrev pub front_of : Settings → FieldRule → ℕ → List Step
front_of s f path = located s.loc_by_alias f.name (slice_get (paths_of s f) path)

-- where a field is missing, and what stands in front of the errors of its default
abbrev pub place_of : Settings → FieldRule → List Step
place_of s f = front_of s f 0

-- the behaviour of its own, else that of the settings
abbrev pub extra_by : ExtraBehavior → Option ExtraBehavior → ExtraBehavior
extra_by around None = around
extra_by around (Some own) = own

-- what is done with extra keys
abbrev pub extra_of : FieldsRule → Settings → ExtraBehavior
extra_of r s = extra_by s.extra_fields_behavior r.extra_behavior
