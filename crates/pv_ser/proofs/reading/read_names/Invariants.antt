use Rattle.std.proofs.Common.{◌≡◌, map, drop}
use Rattle.pv_ser.specs.Picks.{reading, items_read}
use Rattle.pv_ser.proofs.Behind.{names_behind}
use Rattle.pv_ser.proofs.reading.read_names.Given as goal

abbrev pub invariant-loop-place : goal.invariant-loop-place
invariant-loop-place l =
    names_behind l.names.items (items_read l.place (map reading (drop l.place l.items))) ≡ items_read 0 (map reading l.items)
