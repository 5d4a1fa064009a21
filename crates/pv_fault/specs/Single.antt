-- One error, at the input itself.
use Rattle.std.specs.Prelude.{[], ◌∷◌}
use Rattle.pv_tree.specs.declared.Tree.{Tree}
use Rattle.pv_fault.specs.declared.kind.Kind.{Kind}
use Rattle.pv_fault.specs.declared.faults.LineError.{LineError}
use Rattle.pv_fault.specs.declared.outcome.Outcome.{Outcome}
use Rattle.pv_fault.specs.declared.outcome.Outcome.TheVariants.{Bad}

-- the error of this kind at an input: there is no step to it
abbrev pub error_here : Kind → Tree → LineError
error_here kind input = record { kind = kind; loc = []; input = input }

-- the outcome that is this error alone
abbrev pub one_error : Kind → Tree → Outcome
one_error kind input = Bad (error_here kind input ∷ [])
