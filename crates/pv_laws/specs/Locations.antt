-- Schemas whose nodes leave the locations of errors as they are.
use Rattle.std.specs.Prelude.{◌≡◌, Bool, true, false, not, ◌&&◌, List, [], ◌∷◌, unwrap_or}
use Rattle.std.specs.List.{AllByRecursion, list_all}
use Rattle.pv_tree.specs.declared.Step.{Step}
use Rattle.pv_rules.specs.declared.FieldRule.{FieldRule}
use Rattle.pv_rules.specs.declared.Settings.{Settings}
use Rattle.pv_node.specs.declared.Node.{Node}
use Rattle.pv_node.specs.declared.Body.TheOpen.{Body-F}
use Rattle.pv_node.specs.Places.{body_of, places}
use Rattle.pv_fields.specs.Paths.{paths_of}

-- there is a path
abbrev pub is_any_path : List (List Step) → Bool
is_any_path [] = false
is_any_path (path ∷ paths) = true

-- the errors of fields stand at the paths at which the fields are looked for
abbrev pub keeps_fields : Settings → List FieldRule → Bool
keeps_fields s fs = s.loc_by_alias && list_all (λ f. is_any_path (paths_of s f)) fs

-- there is one, and no more
abbrev pub is_one : {X : Type 0} → List X → Bool
is_one [] = false
is_one (x ∷ []) = true
is_one (x ∷ y ∷ xs) = false

-- Whether the errors of a node, by the settings in force in it, are at the input itself, or those
-- of its child schemas with no steps but those to the parts of the input in front of their
-- locations. The errors of a default that is validated are not those of the input, nor are those of
-- a child schema whose input is made by a function. Labels stand in front of the errors of a
-- union's choices where there are several, and tags in front of those of a tagged union; a union
-- without choices has no error.
abbrev pub keeps_locations : {X Y : Type 0} → Settings → Body-F X Y → Bool
keeps_locations s (Body-F.Scalar rule) = true
keeps_locations s (Body-F.Sequence rule items) = true
keeps_locations s (Body-F.Tuple rule items) = true
keeps_locations s (Body-F.Dict rule keys values) = true
keeps_locations s (Body-F.Nullable inner) = true
keeps_locations s (Body-F.Fields rule fields extras config cls) = keeps_fields s rule.fields
keeps_locations s (Body-F.Model cls root_model config inner) = true
keeps_locations s (Body-F.Default default validates failing inner) =
    not (unwrap_or validates s.validate_default)
keeps_locations s (Body-F.Union rule choices) = is_one choices
keeps_locations s (Body-F.TaggedUnion rule choices) = false
keeps_locations s (Body-F.LaxOrStrict lax strict) = true
keeps_locations s (Body-F.JsonOrPython json) = true
keeps_locations s (Body-F.CustomError error_type message inner) = true
keeps_locations s (Body-F.Before rule inner) = false
keeps_locations s (Body-F.After rule inner) = true
keeps_locations s (Body-F.Wrap rule inner) = false
keeps_locations s (Body-F.Plain rule) = true
keeps_locations s (Body-F.Definitions inner definitions) = true
keeps_locations s (Body-F.DefinitionRef name) = true

-- each node of a schema keeps them
abbrev pub KeepsLocations : Node → Type 0
KeepsLocations root =
    AllByRecursion (λ place. keeps_locations place.settings (body_of place.node) ≡ true)
    (places root)
