use Rattle.std.proofs.Common.{refl, arith, sym}
use Rattle.pv_scalar.proofs.Firsts.{keeps_none, keeps_more}
use Rattle.pv_scalar.proofs.places.places_of.Goals as goal

pub loop-place-init : goal.loop-place-init
loop-place-init c = keeps_none _ refl refl refl c.new.ensures.empty c.new-2.ensures.empty

pub loop-place-preserved : goal.loop-place-preserved
loop-place-preserved c =
    keeps_more _ _ c.args.values.now c.loop-place.place c.index-values-place.result (omega arith) (sym c.index-values-place.is) c.loop-place.invariant c.in_ok-note.ensures
