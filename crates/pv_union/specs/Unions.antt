-- The outcome of a union, from those of all its members.
use Rattle.std.specs.Prelude.{ℕ, ◌+◌, Bool, true, false, List, [], ◌∷◌, ◌++◌, map, drop, slice_get, Option, None, Some}
use Rattle.pv_tree.specs.declared.Step.TheVariants.{Name}
use Rattle.pv_fault.specs.declared.LineError.{LineError}
use Rattle.pv_fault.specs.declared.Outcome.{Outcome}
use Rattle.pv_fault.specs.declared.Outcome.TheVariants.{Good, Bad}
use Rattle.pv_fault.specs.Under.{outcome_under}
use Rattle.pv_union.specs.Choice.{choice}
use Rattle.pv_union.specs.declared.score.Score.{Score}
use Rattle.pv_union.specs.declared.score.Score.TheVariants as score

-- the score of an outcome
abbrev pub score_of : Outcome → Score
score_of (Good v g n) = score.Good g n
score_of (Bad es) = score.Failed

-- the errors of an outcome
abbrev pub errors_of : Outcome → List LineError
errors_of (Good v g n) = []
errors_of (Bad es) = es

-- the first of some labels, or the empty one where there is none
abbrev pub first_label : List (List ℕ) → List ℕ
first_label [] = []
first_label (label ∷ labels) = label

-- the errors of all members in their order, each under its label
abbrev pub failures : List (List ℕ) → List Outcome → List LineError
failures labels [] = []
failures labels (o ∷ os) =
    errors_of (outcome_under (Name (first_label labels)) o) ++ failures (drop 1 labels) os

-- the place of the first success, where the first of these has the place i
abbrev pub first_success : ℕ → List Outcome → Option ℕ
first_success i [] = None
first_success i (Good v g n ∷ os) = Some i
first_success i (Bad es ∷ os) = first_success (i + 1) os

-- the place of the member that is taken: the first that succeeds where they are taken from left to
-- right, else the choice of a smart union
abbrev pub place_by : Bool → List Outcome → Option ℕ
place_by true os = first_success 0 os
place_by false os = choice (map score_of os)

-- the outcome where there is one, else the errors
abbrev pub or_failures : List LineError → Option Outcome → Outcome
or_failures es None = Bad es
or_failures es (Some o) = o

-- the outcome at this place, or the errors of all members where none is taken
abbrev pub taken : List (List ℕ) → List Outcome → Option ℕ → Outcome
taken labels os None = Bad (failures labels os)
taken labels os (Some i) = or_failures (failures labels os) (slice_get os i)

-- a union by its labels and the outcomes of its members: one member stands for the union
unfoldable pub union_of : Bool → List (List ℕ) → List Outcome → Outcome
union_of left_to_right labels [] = Bad []
union_of left_to_right labels (o ∷ []) = o
union_of left_to_right labels (o ∷ p ∷ os) =
    taken labels (o ∷ p ∷ os) (place_by left_to_right (o ∷ p ∷ os))
