use Rattle.std.proofs.Common.{◌≡◌, []}
use Rattle.std.specs.Vec.Iter.{into_iter_items}
use Rattle.pv_tree.specs.Merging.{put_all, IsIndex}
use Rattle.pv_tree.proofs.merging.merge_repeated.Given as goal

abbrev pub invariant-loop-name : goal.invariant-loop-name
invariant-loop-name g l = (put_all l.kept.items (into_iter_items l.name-iterator) ≡ put_all [] l.fn.members.items) × IsIndex l.places l.kept.items
