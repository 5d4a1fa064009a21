use Rattle.std.proofs.Common.{◌≡◌, Some, length, slice_get, refl}
use Rattle.std.proofs.lemmas.Option.{slice_get_read}
use Rattle.pv_references.proofs.Marking.{marked_more}
use Rattle.pv_references.proofs.circles.marked_names.Goals as goal

pub loop-place-preserved : goal.loop-place-preserved
loop-place-preserved c =
    let ns = c.args.nodes.now in
    let i = c.loop-place.place in
    let n = c.index-nodes-place.result in
    let here : slice_get ns i ≡ Some n = slice_get_read ns (length ns) i n refl c.loop-place-test.true c.index-nodes-place.is in
    marked_more c.args.flags.now ns i n c.loop-place.names.items c.add.new.names.items _ _ here c.marked.ensures c.in_ok-add.ensures c.loop-place.invariant
