use Rattle.pv_fields.proofs.Entering.{HasReached}
use Rattle.pv_fields.proofs.directories.Directories.end_behind.Given as goal

abbrev pub invariant-loop-step : goal.invariant-loop-step
invariant-loop-step l = HasReached l.fn.self.0 l.self l.from l.here.place l.here.tree.now l.fn.rest l.step-index l.fn.first.tree.now
