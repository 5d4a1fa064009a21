use Rattle.std.proofs.Common.{◌≡◌, ◌∷◌, ◌++◌, take}
use Rattle.std.specs.List.{flat_map}
use Rattle.pv_fault.specs.Errors.{error_text}
use Rattle.pv_fault.proofs.printing.write_errors.Given as goal

abbrev pub invariant-loop-error : goal.invariant-loop-error
invariant-loop-error l = l.out ≡ l.initial.out ++ flat_map (λ e. 44 ∷ error_text e) (take l.error-index l.rest)
