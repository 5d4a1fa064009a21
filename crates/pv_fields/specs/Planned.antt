-- The parts of a plan of fields.
use Rattle.std.specs.Prelude.{ℕ, Bool, true, false, List, [], ◌∷◌, if◌then◌else◌, slice_get, slice_set, Option, None, Some}
use Rattle.std.specs.Option.{option_and_then, option_map}
use Rattle.pv_tree.specs.declared.Step.{Step}
use Rattle.pv_tree.specs.declared.Step.TheVariants.{Name, Index}
use Rattle.pv_tree.specs.declared.Tree.{Tree}
use Rattle.pv_tree.specs.declared.Value.{Value}
use Rattle.pv_tree.specs.declared.Value.TheViews.{out-Value}
use Rattle.pv_equality.specs.Equality.{is_str}
use Rattle.pv_rules.specs.declared.FieldRule.{FieldRule}
use Rattle.pv_rules.specs.declared.Settings.{Settings}
use Rattle.pv_fields.specs.declared.field_paths.FieldPaths.{FieldPaths}
use Rattle.pv_fields.specs.declared.directories.End.{End}
use Rattle.pv_tree.specs.Merging.{place_of}
use Rattle.pv_paths.specs.Following.{follow, found}
use Rattle.pv_fields.specs.Finding.{members_in}
use Rattle.pv_fields.specs.Paths.{paths_of, named}

-- the paths of a field beside its name as a path
abbrev pub field_paths : Settings → FieldRule → FieldPaths
field_paths s f = record { paths = paths_of s f; named = named f.name }

-- the keys of the entries are some of the members' names, in their order
abbrev pub among : List (List ℕ × Tree) → List (Value × Value) → Bool
among [] [] = true
among [] (e ∷ es) = false
among (m ∷ ms) [] = true
among (m ∷ ms) (e ∷ es) =
    if is_str m.0 (out-Value e.0) then among ms es else among ms (e ∷ es)

-- the place of the member that the steps begin with
abbrev pub begin_place : List (List ℕ × Tree) → List Step → Option ℕ
begin_place ms [] = None
begin_place ms (Name name ∷ steps) = place_of ms name
begin_place ms (Index place ∷ steps) = None

-- the end of the steps, beside the place of the member that they begin with
abbrev pub reached : List Step → Tree → Option (Option ℕ × Tree)
reached steps t = option_map (λ end. (begin_place (members_in t) steps, end)) (follow steps t)

-- what was reached, as that place and the tree
abbrev pub end_of : End → Option ℕ × Tree
end_of e = (e.member, e.tree.now)

-- the place of the member that begins the path that was found
abbrev pub taken_by : List (List Step) → Tree → Option (ℕ × Tree) → Option ℕ
taken_by ps t None = None
taken_by ps t (Some h) = option_and_then (begin_place (members_in t)) (slice_get ps h.0)

-- the place of the member that begins the first of these paths whose steps all lead on
abbrev pub taken_member : List (List Step) → Tree → Option ℕ
taken_member ps t = taken_by ps t (found ps t)

-- a member is no longer extra
abbrev pub marked : List Bool → Option ℕ → List Bool
marked extra None = extra
marked extra (Some member) = slice_set extra member false
