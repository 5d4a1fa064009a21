use Rattle.std.proofs.Common.{◌≡◌, map, drop}
use Rattle.std.specs.List.{list_any}
use Rattle.pv_ser.specs.Force.{keeps}
use Rattle.pv_ser.proofs.in_force.one_keeps.Given as goal

abbrev pub invariant-loop-pick : goal.invariant-loop-pick
invariant-loop-pick l =
    list_any (keeps l.name) (map (λ r. r.now) (drop l.pick-index l.picks)) ≡ list_any (keeps l.name) (map (λ r. r.now) l.picks)
