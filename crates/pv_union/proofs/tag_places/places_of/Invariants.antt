use Rattle.std.proofs.Common.{take}
use Rattle.pv_union.specs.TagPlaces.{KeepsPlaces}
use Rattle.pv_union.proofs.tag_places.places_of.Given as goal

abbrev pub invariant-loop-place : goal.invariant-loop-place
invariant-loop-place l = KeepsPlaces l.places (take l.place l.tags)
