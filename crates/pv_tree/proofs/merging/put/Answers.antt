use Rattle.std.proofs.Common.{◌≡◌, ◌<◌, ◌∙◌, length, get_or, slice_set, sym, ap, subst, rules}
use Rattle.std.specs.Prelude.{Some, None}
use Rattle.pv_tree.specs.Merging.{place_of, IsIndex}
use Rattle.pv_tree.proofs.Merges.{put_new, put_old, place_below, index_kept, index_inserted}
use Rattle.pv_tree.proofs.merging.put.Goals as goal

pub index_mut-requires : goal.index_mut-requires
index_mut-requires g c =
    let below : c.in-Some.place < length c.args.kept.now.items =
    place_below c.args.kept.now.items c.args.name c.args.value c.in-Some.place
    (sym (c.requires c.args.name) ∙ sym c.get.ensures.value ∙ sym c.copied.ensures ∙ c.in-Some.is) in
    search rules

pub returns-in-Some-clause-kept : goal.returns-in-Some-clause-kept
returns-in-Some-clause-kept g c =
    let there : place_of c.args.kept.now.items c.args.name ≡ Some c.in-Some.place =
    sym (c.requires c.args.name) ∙ sym c.get.ensures.value ∙ sym c.copied.ensures ∙ c.in-Some.is in
    let entry : c.index_mut.result.now ≡ get_or c.args.kept.now.items c.in-Some.place c.index_mut.result.now = search rules in
    ap (λ x. slice_set c.args.kept.now.items c.in-Some.place (x.0, c.args.value)) entry
    ∙ sym (put_old c.args.kept.now.items c.args.name c.args.value c.in-Some.place c.index_mut.result.now there)

pub returns-in-Some-clause-places : goal.returns-in-Some-clause-places
returns-in-Some-clause-places g c =
    let there : place_of c.args.kept.now.items c.args.name ≡ Some c.in-Some.place =
    sym (c.requires c.args.name) ∙ sym c.get.ensures.value ∙ sym c.copied.ensures ∙ c.in-Some.is in
    subst (IsIndex c.args.places.now) (sym (returns-in-Some-clause-kept g c))
    (index_kept c.args.places.now c.args.kept.now.items c.args.name c.args.value c.in-Some.place c.requires there)

pub returns-in_ok-push-in-None-clause-kept : goal.returns-in_ok-push-in-None-clause-kept
returns-in_ok-push-in-None-clause-kept g c =
    c.in_ok-push-in-None.ensures.items ∙ sym (put_new c.args.kept.now.items c.args.name c.args.value
    (sym (c.requires c.args.name) ∙ sym c.get.ensures.value ∙ sym c.copied.ensures ∙ c.in-None.is))

pub returns-in_ok-push-in-None-clause-places : goal.returns-in_ok-push-in-None-clause-places
returns-in_ok-push-in-None-clause-places g c =
    let none : place_of c.args.kept.now.items c.args.name ≡ None =
    sym (c.requires c.args.name) ∙ sym c.get.ensures.value ∙ sym c.copied.ensures ∙ c.in-None.is in
    let last : c.len.result ≡ length c.args.kept.now.items = search rules in
    subst (IsIndex c.insert.new.self) (sym c.in_ok-push-in-None.ensures.items)
    (index_inserted c.args.places.now c.insert.new.self c.args.kept.now.items c.args.name c.in_ok-share-in-None.field-0 c.args.value c.len.result
    c.requires none c.in_ok-share-in-None.ensures last c.in_ok-insert-in-None.ensures.updates)
