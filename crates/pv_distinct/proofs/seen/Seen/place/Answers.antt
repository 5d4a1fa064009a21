use Rattle.std.proofs.Common.{◌∙◌, sym}
use Rattle.std.specs.Prelude.{None, Some}
use Rattle.std.specs.BTreeMap.{get}
use Rattle.pv_distinct.specs.Keys.{key_cmp}
use Rattle.pv_distinct.specs.declared.seen.Seen.{Seen}
use Rattle.pv_distinct.proofs.Sightings.{place_told, kept_old, kept_added}
use Rattle.pv_distinct.proofs.seen.Seen.place.Goals as goal

pub returns-in-Some-clause-place : goal.returns-in-Some-clause-place
returns-in-Some-clause-place c = λ kept h. place_told c.args.self.now kept c.args.value.now h (Some c.in-Some.place)
    (sym c.in-Some.is ∙ c.copied.ensures ∙ c.get.ensures.value ∙ (λ i. get key_cmp c.args.self.now.places (c.in_ok-key.ensures i)))

pub returns-in-Some-clause-seen : goal.returns-in-Some-clause-seen
returns-in-Some-clause-seen c = λ kept h. kept_old c.args.self.now kept c.args.value.now h c.in-Some.place
    (sym (sym c.in-Some.is ∙ c.copied.ensures ∙ c.get.ensures.value ∙ (λ i. get key_cmp c.args.self.now.places (c.in_ok-key.ensures i))))

pub returns-in_ok-insert-in-None-clause-place : goal.returns-in_ok-insert-in-None-clause-place
returns-in_ok-insert-in-None-clause-place c = λ kept h. place_told c.args.self.now kept c.args.value.now h None
    (sym c.in-None.is ∙ c.copied.ensures ∙ c.get.ensures.value ∙ (λ i. get key_cmp c.args.self.now.places (c.in_ok-key.ensures i)))

pub returns-in_ok-insert-in-None-clause-seen : goal.returns-in_ok-insert-in-None-clause-seen
returns-in_ok-insert-in-None-clause-seen c = λ kept h.
    let n : Seen = record { places = c.insert.new.self } in
    kept_added c.args.self.now kept c.args.value.now h n c.in_ok-key.key c.len-next.result c.in_ok-insert-in-None.field-0
    (sym (sym c.in-None.is ∙ c.copied.ensures ∙ c.get.ensures.value ∙ (λ i. get key_cmp c.args.self.now.places (c.in_ok-key.ensures i))))
    c.in_ok-key.ensures c.len-next.ensures.len c.in_ok-insert-in-None.ensures.updates c.in_ok-insert-in-None.ensures.old c.in_ok-insert-in-None.ensures.len
