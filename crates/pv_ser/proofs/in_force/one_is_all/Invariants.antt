use Rattle.std.proofs.Common.{◌≡◌, map, drop}
use Rattle.std.specs.List.{list_any}
use Rattle.pv_ser.specs.Force.{is_all}
use Rattle.pv_ser.proofs.in_force.one_is_all.Given as goal

abbrev pub invariant-loop-pick : goal.invariant-loop-pick
invariant-loop-pick l = list_any is_all (map (λ r. r.now) (drop l.pick-index l.picks)) ≡ list_any is_all (map (λ r. r.now) l.picks)
