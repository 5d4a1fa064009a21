use Rattle.std.proofs.Common.{arith, sym}
use Rattle.pv_union.proofs.Noting.{keeps_more}
use Rattle.pv_union.proofs.tag_places.places_of.Goals as goal

pub loop-place-preserved : goal.loop-place-preserved
loop-place-preserved c =
    keeps_more c.loop-place.places c.note.new.places c.args.tags.now c.loop-place.place c.index-tags-place.result (omega arith) (sym c.index-tags-place.is) c.loop-place.invariant c.in_ok-note.ensures
