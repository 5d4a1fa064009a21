use Rattle.std.proofs.Common.{◌≡◌, drop}
use Rattle.pv_paths.specs.Following.{follow}
use Rattle.pv_paths.proofs.following.follow.Given as goal

abbrev pub invariant-loop-step : goal.invariant-loop-step
invariant-loop-step l = follow (drop l.step-index l.steps) l.here ≡ follow l.fn.steps l.fn.tree
