-- The members of a union, by the records of its scene.
use Rattle.std.specs.Prelude.{ℕ, Bool, if◌then◌else◌, List, map, Option}
use Rattle.pv_tree.specs.declared.Tree.{Tree}
use Rattle.pv_fault.specs.declared.Good.{Good}
use Rattle.pv_fault.specs.declared.Outcome.{Outcome}
use Rattle.pv_func.specs.Functions.{Named, Meaning}
use Rattle.pv_union.specs.Choice.{score_found, is_better}
use Rattle.pv_union.specs.Unions.{taken, place_by}
use Rattle.pv_walk.specs.declared.Level.{Level}
use Rattle.pv_walk.specs.Nests.{below}
use Rattle.pv_walk.specs.Unions.{each_given}

-- what the members of these numbers give for a tree
abbrev pub given_by : {O F : Type 0} → (O → Named Meaning) → Level O F → List ℕ → Tree
    → List Outcome
given_by of r numbers t = each_given (map (below of r) numbers) t

-- the member that is taken, or the errors of all of them under their labels
abbrev pub taken_by : Bool → List (List ℕ) → List Outcome → Outcome
taken_by left_to_right labels os = taken labels os (place_by left_to_right os)

-- the best so far, or what was found later where it is better
abbrev pub better : Option Good → Option Good → Option Good
better best later = if is_better (score_found best) (score_found later) then later else best
