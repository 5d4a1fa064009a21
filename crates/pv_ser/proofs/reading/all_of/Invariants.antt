use Rattle.std.proofs.Common.{◌≡◌, map}
use Rattle.std.specs.Vec.Iter.{into_iter_items}
use Rattle.pv_ser.specs.Picks.{all_of, by_name, put_all}
use Rattle.pv_ser.proofs.reading.all_of.Given as goal

abbrev pub invariant-loop-name : goal.invariant-loop-name
invariant-loop-name l = put_all l.picks (map all_of (into_iter_items l.name-iterator)) ≡ by_name (map all_of l.fn.names.items)
