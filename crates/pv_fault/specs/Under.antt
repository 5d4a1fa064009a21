-- Errors and outcomes of a part, seen from the whole: the steps to the part stand in front of each
-- location.
use Rattle.std.specs.Prelude.{List, ◌∷◌, ◌++◌, map}
use Rattle.pv_tree.specs.declared.Step.{Step}
use Rattle.pv_fault.specs.declared.faults.LineError.{LineError}
use Rattle.pv_fault.specs.declared.outcome.Outcome.{Outcome}
use Rattle.pv_fault.specs.declared.outcome.Outcome.TheVariants.{Good, Bad}

-- one error
abbrev pub under : Step → LineError → LineError
under step e = record { kind = e.kind; loc = step ∷ e.loc; input = e.input }

-- several errors
abbrev pub all_under : Step → List LineError → List LineError
all_under step = map (under step)

-- one error, with the steps of a path in front
abbrev pub at_path : List Step → LineError → LineError
at_path path e = record { kind = e.kind; loc = path ++ e.loc; input = e.input }

-- several errors
abbrev pub all_at_path : List Step → List LineError → List LineError
all_at_path path = map (at_path path)

-- an outcome
abbrev pub outcome_under : Step → Outcome → Outcome
outcome_under step (Good value grade fields) = Good value grade fields
outcome_under step (Bad es) = Bad (all_under step es)
