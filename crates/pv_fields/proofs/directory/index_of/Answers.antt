use Rattle.std.proofs.Common.{get_or, sym, ap, subst, ◌∙◌, rules, take}
use Rattle.std.proofs.lemmas.List.{take_more}
use Rattle.pv_tree.specs.Merging.{IsIndex}
use Rattle.pv_tree.proofs.Merges.{index_inserted}
use Rattle.pv_fields.proofs.Placing.{none_before}
use Rattle.pv_fields.proofs.directory.index_of.Goals as goal

pub loop-place-preserved : goal.loop-place-preserved
loop-place-preserved c =
    let ms = c.args.members.now in
    let member = c.index-members-place.result in
    subst (λ xs. IsIndex c.insert.new.self xs) (sym (take_more ms c.loop-place.place member c.loop-place-test.true))
    (index_inserted c.loop-place.places c.insert.new.self (take c.loop-place.place ms) (get_or ms c.loop-place.place member).0 c.in_ok-share.field-0
    (get_or ms c.loop-place.place member).1 c.loop-place.place c.loop-place.invariant (none_before ms c.loop-place.place member c.requires c.loop-place-test.true)
    (c.in_ok-share.ensures ∙ ap (λ x. x.0) c.index-members-place.is) (search rules) c.in_ok-insert.ensures.updates)
