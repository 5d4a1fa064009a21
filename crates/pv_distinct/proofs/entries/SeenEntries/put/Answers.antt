use Rattle.std.proofs.Common.{◌≡◌, ◌<◌, ◌+◌, List, length, refl, ap, rules}
use Rattle.pv_tree.specs.declared.Value.{Value}
use Rattle.pv_distinct.proofs.Putting.{last_is, moved_entry, pushed_entry, within, seen_put}
use Rattle.pv_distinct.proofs.entries.SeenEntries.put.Goals as goal

pub move_last_value-requires : goal.move_last_value-requires
move_last_value-requires c =
    let es : List (Value × Value) = c.self.inside.entries.items in
    let below : c.in-Ok-Old.place + 1 < length c.push.new.self.items =
    within c.in-Ok-Old.place es c.push.new.self.items c.args.entry c.index.result.now.0 c.in-Ok-Old.field-0 (search rules) (search rules) c.in-Ok-Old.field-0-is in
    search rules

pub invariant_of-self-in-Ok-New : goal.invariant_of-self-in-Ok-New
invariant_of-self-in-Ok-New c =
    let es : List (Value × Value) = c.self.inside.entries.items in
    let last : c.index.result.now ≡ c.args.entry = last_is es c.push.new.self.items c.args.entry c.index.result.now c.len-last.result (search rules) (search rules) c.index.ensures in
    seen_put c.place.new.self es c.push.new.self.items c.args.entry c.index.result.now.0 (ap (λ e. e.0) last)
    (pushed_entry es es c.push.new.self.items c.args.entry c.index.result.now.0 c.in-Ok-New.field-0 refl (ap (λ e. e.0) last) (search rules) c.in-Ok-New.field-0-is (search rules))
    (search rules)

pub invariant_of-self-in-Ok-Old : goal.invariant_of-self-in-Ok-Old
invariant_of-self-in-Ok-Old c =
    let es : List (Value × Value) = c.self.inside.entries.items in
    let last : c.index.result.now ≡ c.args.entry = last_is es c.push.new.self.items c.args.entry c.index.result.now c.len-last.result (search rules) (search rules) c.index.ensures in
    seen_put c.place.new.self es c.move_last_value.new.entries.items c.args.entry c.index.result.now.0 (ap (λ e. e.0) last)
    (moved_entry c.in-Ok-Old.place es es c.move_last_value.new.entries.items c.push.new.self.items c.args.entry c.index.result.now.0 c.in-Ok-Old.field-0
    refl (ap (λ e. e.0) last) (search rules) c.in-Ok-Old.field-0-is (search rules) c.move_last_value.ensures)
    (search rules)

pub returns-in-Ok-New : goal.returns-in-Ok-New
returns-in-Ok-New c =
    let es : List (Value × Value) = c.self.inside.entries.items in
    let last : c.index.result.now ≡ c.args.entry = last_is es c.push.new.self.items c.args.entry c.index.result.now c.len-last.result (search rules) (search rules) c.index.ensures in
    pushed_entry es c.args.self.now c.push.new.self.items c.args.entry c.index.result.now.0 c.in-Ok-New.field-0 (search rules) (ap (λ e. e.0) last) (search rules) c.in-Ok-New.field-0-is (search rules)

pub returns-in-Ok-Old : goal.returns-in-Ok-Old
returns-in-Ok-Old c =
    let es : List (Value × Value) = c.self.inside.entries.items in
    let last : c.index.result.now ≡ c.args.entry = last_is es c.push.new.self.items c.args.entry c.index.result.now c.len-last.result (search rules) (search rules) c.index.ensures in
    moved_entry c.in-Ok-Old.place es c.args.self.now c.move_last_value.new.entries.items c.push.new.self.items c.args.entry c.index.result.now.0 c.in-Ok-Old.field-0
    (search rules) (ap (λ e. e.0) last) (search rules) c.in-Ok-Old.field-0-is (search rules) c.move_last_value.ensures
