use Rattle.std.proofs.Common.{◌≡◌, List, rules}
use Rattle.pv_tree.specs.declared.Value.{Value}
use Rattle.pv_distinct.proofs.Putting.{cut_last, last_is, value_found, value_added, seen_found, seen_added}
use Rattle.pv_distinct.proofs.items.SeenItems.put.Goals as goal

pub invariant_of-self-in-Ok-New : goal.invariant_of-self-in-Ok-New
invariant_of-self-in-Ok-New c =
    let vs : List Value = c.self.inside.values.items in
    let last : c.index.result.now ≡ c.args.value = last_is vs c.push.new.self.items c.args.value c.index.result.now c.len-last.result (search rules) (search rules) c.index.ensures in
    seen_added c.place.new.self vs c.push.new.self.items c.args.value c.index.result.now c.in-Ok-New.field-0 last (search rules) c.in-Ok-New.field-0-is (search rules) (search rules)

pub invariant_of-self-in-Ok-Old : goal.invariant_of-self-in-Ok-Old
invariant_of-self-in-Ok-Old c =
    let vs : List Value = c.self.inside.values.items in
    seen_found c.place.new.self vs c.truncate.new.self.items c.index.result.now c.in-Ok-Old.field-0-0 c.in-Ok-Old.field-0
    (cut_last vs c.push.new.self.items c.truncate.new.self.items c.args.value c.len-last.result (search rules) (search rules) (search rules)) (search rules) c.in-Ok-Old.field-0-is (search rules)

pub returns-in-Ok-New : goal.returns-in-Ok-New
returns-in-Ok-New c =
    let vs : List Value = c.self.inside.values.items in
    let last : c.index.result.now ≡ c.args.value = last_is vs c.push.new.self.items c.args.value c.index.result.now c.len-last.result (search rules) (search rules) c.index.ensures in
    value_added vs c.args.self.now c.push.new.self.items c.args.value c.index.result.now c.in-Ok-New.field-0 (search rules) last (search rules) c.in-Ok-New.field-0-is (search rules)

pub returns-in-Ok-Old : goal.returns-in-Ok-Old
returns-in-Ok-Old c =
    let vs : List Value = c.self.inside.values.items in
    let last : c.index.result.now ≡ c.args.value = last_is vs c.push.new.self.items c.args.value c.index.result.now c.len-last.result (search rules) (search rules) c.index.ensures in
    value_found vs c.args.self.now c.truncate.new.self.items c.args.value c.index.result.now c.in-Ok-Old.field-0-0 c.in-Ok-Old.field-0
    (cut_last vs c.push.new.self.items c.truncate.new.self.items c.args.value c.len-last.result (search rules) (search rules) (search rules)) (search rules) last (search rules) c.in-Ok-Old.field-0-is
