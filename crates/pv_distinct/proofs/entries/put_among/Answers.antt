use Rattle.std.proofs.Common.{◌≡◌, sym, ◌∙◌}
use Rattle.pv_distinct.specs.Sightings.{place_of}
use Rattle.pv_distinct.specs.declared.seen.Place.TheVariants as place
use Rattle.pv_distinct.proofs.Placing.{keys, entry_old, entry_within}
use Rattle.pv_distinct.proofs.entries.put_among.Goals as goal

pub set_value-requires : goal.set_value-requires
set_value-requires c =
    let told : place_of (keys c.args.kept.now.items) c.args.entry.0 ≡ place.Old c.in-Old.place
    = (λ i. place_of (keys (sym c.as_slice.ensures.value i)) c.args.entry.0) ∙ sym c.place_among.ensures ∙ c.in-Old.is in
    entry_within c.args.entry.0 c.args.entry.1 c.args.kept.now.items c.in-Old.place told

pub returns-in-Old : goal.returns-in-Old
returns-in-Old c =
    let told : place_of (keys c.args.kept.now.items) c.args.entry.0 ≡ place.Old c.in-Old.place
    = (λ i. place_of (keys (sym c.as_slice.ensures.value i)) c.args.entry.0) ∙ sym c.place_among.ensures ∙ c.in-Old.is in
    c.set_value.ensures c.args.entry ∙ sym (entry_old c.args.entry.0 c.args.entry.1 c.args.kept.now.items c.in-Old.place c.args.entry told)
