-- What a walk leaves behind, by the outcome that it stands for.
use Rattle.std.specs.Prelude.{◌≡◌, List, ◌++◌, Option, None, Some, Result, Ok, Err}
use Rattle.pv_text.specs.declared.Memory.{Memory}
use Rattle.pv_tree.specs.declared.Step.{Step}
use Rattle.pv_fault.specs.declared.LineError.{LineError}
use Rattle.pv_fault.specs.declared.Good.{Good}
use Rattle.pv_fault.specs.declared.Outcome.{Outcome}
use Rattle.pv_fault.specs.declared.Outcome.TheVariants as outcome
use Rattle.pv_fault.specs.Under.{all_at_path}
use Rattle.pv_collect.specs.Kept.{good_of}
use Rattle.pv_walk.specs.declared.out.Out.{Out}

-- these errors were added, with the path in front, and the path is as before
pub record Adds (old new : Out) (es : List LineError) : Type 0 where
  pub path : new.path ≡ old.path
  pub errors : new.errors ≡ old.errors ++ all_at_path old.path es

-- the errors, and then those of the outcome, with the path in front
abbrev pub written : List Step → List LineError → Outcome → List LineError
written path errors (outcome.Good v g n) = errors
written path errors (outcome.Bad es) = errors ++ all_at_path path es

-- the answer is the outcome's success, its errors were added, and the path is as before
pub record Walked (old new : Out) (found : Option Good) (o : Outcome) : Type 0 where
  pub path : new.path ≡ old.path
  pub answer : found ≡ good_of o
  pub errors : new.errors ≡ written old.path old.errors o

-- where memory runs out nothing is said
abbrev pub Walks : Out → Out → Result (Option Good) Memory → Outcome → Type 0
Walks old new (Ok found) o = Walked old new found o
Walks old new (Err e) o = Unit

-- the outcome of a walk that began with nothing, by the errors that it left
abbrev pub outcome_of : List LineError → Option Good → Outcome
outcome_of errors None = outcome.Bad errors
outcome_of errors (Some g) = outcome.Good g.value g.grade g.fields
