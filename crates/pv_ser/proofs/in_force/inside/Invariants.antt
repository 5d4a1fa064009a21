use Rattle.std.proofs.Common.{◌≡◌, map, take}
use Rattle.pv_ser.specs.Force.{inside}
use Rattle.pv_ser.proofs.in_force.inside.Given as goal

abbrev pub invariant-loop-pick : goal.invariant-loop-pick
invariant-loop-pick l = map (λ r. r.now) l.found.items ≡ inside l.name (map (λ r. r.now) (take l.pick-index l.picks))
