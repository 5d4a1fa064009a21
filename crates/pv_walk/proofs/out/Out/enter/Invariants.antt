use Rattle.std.proofs.Common.{◌≡◌, ◌++◌, take}
use Rattle.pv_walk.proofs.out.Out.enter.Given as goal

abbrev pub invariant-loop-step : goal.invariant-loop-step
invariant-loop-step l = (l.self.path ≡ l.fn.self.path ++ take l.step-index l.steps) × (l.self.errors ≡ l.fn.self.errors)
