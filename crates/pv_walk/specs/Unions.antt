-- What unions and tagged unions give for a tree, by what their children give.
use Rattle.std.specs.Prelude.{ℕ, Bool, List, [], map, slice_get, unwrap_or, Result, Ok, Err}
use Rattle.pv_tree.specs.declared.Step.TheVariants.{Name}
use Rattle.pv_tree.specs.declared.Tree.{Tree}
use Rattle.pv_rules.specs.declared.TagRule.{TagRule}
use Rattle.pv_fault.specs.declared.Kind.{Kind}
use Rattle.pv_fault.specs.declared.Outcome.{Outcome}
use Rattle.pv_fault.specs.Single.{one_error}
use Rattle.pv_fault.specs.Under.{outcome_under}
use Rattle.pv_union.specs.Unions.{union_of}
use Rattle.pv_union.specs.Tags.{chosen}
use Rattle.pv_walk.specs.Rules.{Child}
use Rattle.pv_walk.specs.Fields.{child_or_none}

-- what a child gives for this tree
abbrev pub given_for : Tree → Child → Outcome
given_for t child = child t

-- what each of the children gives for a tree
abbrev pub each_given : List Child → Tree → List Outcome
each_given children t = map (given_for t) children

-- a union by the labels of its children
unfoldable pub union : Bool → List (List ℕ) → List Child → Tree → Outcome
union left_to_right labels children t = union_of left_to_right labels (each_given children t)

-- the tag of a choice; one past the tags has the empty one
abbrev pub tag_at : TagRule → ℕ → List ℕ
tag_at r place = unwrap_or (slice_get r.tags place) []

-- the child of the choice under its tag, or what is wrong with the tree
abbrev pub tagged_by : TagRule → List Child → Tree → Result ℕ Kind → Outcome
tagged_by r children t (Err kind) = one_error kind t
tagged_by r children t (Ok place) =
    outcome_under (Name (tag_at r place)) (child_or_none (slice_get children place) t)

-- a tagged union
unfoldable pub tagged : TagRule → List Child → Tree → Outcome
tagged r children t = tagged_by r children t (chosen r t)
