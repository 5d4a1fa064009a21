use Rattle.std.proofs.Common.{take}
use Rattle.pv_scalar.specs.Places.{KeepsPlaces}
use Rattle.pv_scalar.proofs.places.places_of.Given as goal

abbrev pub invariant-loop-place : goal.invariant-loop-place
invariant-loop-place l = KeepsPlaces l.places (take l.place l.values)
