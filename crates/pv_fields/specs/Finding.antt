-- What is found of an object: the value of each field, and the keys that no field takes.
use Rattle.std.specs.Prelude.{ℕ, Bool, false, not, List, [], ◌∷◌, ◌++◌, map, bytes_eq, slice_get, Option, None, Some}
use Rattle.std.specs.List.{filter, flat_map, list_any}
use Rattle.std.specs.Option.{option_and_then, option_to_list}
use Rattle.pv_tree.specs.declared.Step.{Step}
use Rattle.pv_tree.specs.declared.Step.TheVariants.{Name, Index}
use Rattle.pv_tree.specs.declared.Tree.{Tree, out-Tree}
use Rattle.pv_tree.specs.Parts.{members_at}
use Rattle.pv_rules.specs.declared.FieldRule.{FieldRule}
use Rattle.pv_rules.specs.declared.FieldsRule.{FieldsRule}
use Rattle.pv_rules.specs.declared.Settings.{Settings}
use Rattle.pv_paths.specs.Following.{found}
use Rattle.pv_fields.specs.Paths.{paths_of}

-- the value of a field
abbrev pub found_field : Settings → Tree → FieldRule → Option (ℕ × Tree)
found_field s t f = found (paths_of s f) t

-- the path at whose end the value of a field was found
abbrev pub taken_path : Settings → Tree → FieldRule → Option (List Step)
taken_path s t f =
    option_and_then (λ hit. slice_get (paths_of s f) hit.0) (found_field s t f)

-- the paths at whose ends the values of these fields were found
abbrev pub taken_paths : Settings → Tree → List FieldRule → List (List Step)
taken_paths s t fs = flat_map (λ f. option_to_list (taken_path s t f)) fs

-- the path begins with this name
abbrev pub begins : List ℕ → List Step → Bool
begins name [] = false
begins name (Name first ∷ steps) = bytes_eq name first
begins name (Index place ∷ steps) = false

-- no path begins with this name
abbrev pub is_extra : List (List Step) → List ℕ → Bool
is_extra paths name = not (list_any (begins name) paths)

-- the path of a number, where there is such a number
abbrev pub path_at : List (List Step) → Option ℕ → List (List Step)
path_at ps None = []
path_at ps (Some path) = option_to_list (slice_get ps path)

-- the paths of fields at these numbers, of each field at most one
abbrev pub paths_at : Settings → List FieldRule → List (Option ℕ) → List (List Step)
paths_at s [] ns = []
paths_at s (f ∷ fs) [] = []
paths_at s (f ∷ fs) (n ∷ ns) = path_at (paths_of s f) n ++ paths_at s fs ns

-- the members of an object
abbrev pub members_or_none : Option (List (List ℕ × Tree)) → List (List ℕ × Tree)
members_or_none None = []
members_or_none (Some ms) = ms

-- the same of a tree; one that is no object has none
abbrev pub members_in : Tree → List (List ℕ × Tree)
members_in t = members_or_none (members_at (out-Tree t))

-- the members whose names begin no path at whose end a field was found, in their order
abbrev pub extras_in : FieldsRule → Settings → Tree → List (List ℕ × Tree)
extras_in r s t = filter (λ m. is_extra (taken_paths s t r.fields) m.0) (members_in t)

-- What is found of all fields, and of each member whether it is extra.
pub record Finds : Type 0 where
  pub fields : List (Option (ℕ × Tree))
  pub extra : List Bool

-- of an object
abbrev pub finds_of : FieldsRule → Settings → Tree → Finds
finds_of r s t = record {
  fields = map (found_field s t) r.fields;
  extra = map (λ m. is_extra (taken_paths s t r.fields) m.0) (members_in t);
}
