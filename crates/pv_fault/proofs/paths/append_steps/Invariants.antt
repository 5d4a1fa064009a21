use Rattle.std.proofs.Common.{◌≡◌, ◌++◌, drop}
use Rattle.pv_fault.proofs.paths.append_steps.Given as goal

abbrev pub invariant-loop-step : goal.invariant-loop-step
invariant-loop-step l = l.loc ++ drop l.step-index l.steps ≡ l.fn.loc ++ l.steps
