use Rattle.std.proofs.Common.{◌≡◌, ◌∷◌, ◌++◌, take}
use Rattle.std.specs.List.{flat_map}
use Rattle.pv_notation.specs.Locations.{step_text}
use Rattle.pv_notation.proofs.locations.write_steps.Given as goal

abbrev pub invariant-loop-step : goal.invariant-loop-step
invariant-loop-step l = l.out ≡ l.initial.out ++ flat_map (λ s. 44 ∷ step_text s) (take l.step-index l.rest)
