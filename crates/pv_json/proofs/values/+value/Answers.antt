use Rattle.std.proofs.Common.{◌≡◌, ◌∷◌, ◌∙◌, length, get_or, refl, sym, arith}
use Rattle.pv_tree.specs.declared.Tree.TheVariants as tree
use Rattle.pv_json_grammar.specs.Reading.{skip}
use Rattle.pv_json_grammar.specs.Values as spec
use Rattle.pv_json.proofs.Items.{several_more, several_last, front_rest}
use Rattle.pv_json.proofs.values.+value.Goals as goal

pub members-loop-i-preserved : goal.members-loop-i-preserved
members-loop-i-preserved t c =
    let front : skip c.in_ok-member.more ≡ get_or c.as_slice.result.now 0 0 ∷ c.after-rest-in-loop-i.result =
    front_rest c.as_slice.result.now c.skip-more.result c.after-rest-in-loop-i.result c.in_ok-member.more
    c.as_slice.ensures c.skip-more.ensures c.in-len1-up.len_at_least c.after-rest-in-loop-i.ensures in
    sym (several_more (spec.member (spec.value c.args.nesting)) 125 spec.object_tree (length c.args.s.now) c.loop-i.i c.loop-i.all.items c.push.new.self.items c.loop-i.rest c.in_ok-member.more
    c.after-rest-in-loop-i.result c.in_ok-member.member _ (omega arith) c.in_ok-member.ensures front c.if-b-ne44.false c.in_ok-push.ensures.items)
    ∙ c.loop-i.invariant

pub members-returns-then-b-eq125 : goal.members-returns-then-b-eq125
members-returns-then-b-eq125 t c =
    let front : skip c.in_ok-member.more ≡ get_or c.as_slice.result.now 0 0 ∷ c.after.result =
    front_rest c.as_slice.result.now c.skip-more.result c.after.result c.in_ok-member.more
    c.as_slice.ensures c.skip-more.ensures c.in-len1-up.len_at_least c.after.ensures in
    sym c.loop-i.invariant
    ∙ several_last (spec.member (spec.value c.args.nesting)) 125 spec.object_tree (length c.args.s.now) c.loop-i.i c.loop-i.all.items c.push.new.self.items c.in_ok-object.field-0 c.loop-i.rest
    c.in_ok-member.more c.after.result c.in_ok-member.member _ refl (omega arith) c.in_ok-member.ensures front c.if-b-eq125.true c.in_ok-push.ensures.items c.in_ok-object.ensures

pub items-loop-i-preserved : goal.items-loop-i-preserved
items-loop-i-preserved t c =
    let front : skip c.in_ok-item.more ≡ get_or c.as_slice.result.now 0 0 ∷ c.after-rest-in-loop-i.result =
    front_rest c.as_slice.result.now c.skip-more.result c.after-rest-in-loop-i.result c.in_ok-item.more
    c.as_slice.ensures c.skip-more.ensures c.in-len1-up.len_at_least c.after-rest-in-loop-i.ensures in
    sym (several_more (spec.value c.args.nesting) 93 tree.Array (length c.args.s.now) c.loop-i.i c.loop-i.all.items c.push.new.self.items c.loop-i.rest c.in_ok-item.more
    c.after-rest-in-loop-i.result c.in_ok-item.item _ (omega arith) c.in_ok-item.ensures front c.if-b-ne44.false c.in_ok-push.ensures.items)
    ∙ c.loop-i.invariant

pub items-returns-then-b-eq93 : goal.items-returns-then-b-eq93
items-returns-then-b-eq93 t c =
    let front : skip c.in_ok-item.more ≡ get_or c.as_slice.result.now 0 0 ∷ c.after.result =
    front_rest c.as_slice.result.now c.skip-more.result c.after.result c.in_ok-item.more
    c.as_slice.ensures c.skip-more.ensures c.in-len1-up.len_at_least c.after.ensures in
    sym c.loop-i.invariant
    ∙ several_last (spec.value c.args.nesting) 93 tree.Array (length c.args.s.now) c.loop-i.i c.loop-i.all.items c.push.new.self.items c.in_ok-array.field-0 c.loop-i.rest
    c.in_ok-item.more c.after.result c.in_ok-item.item _ refl (omega arith) c.in_ok-item.ensures front c.if-b-eq93.true c.in_ok-push.ensures.items c.in_ok-array.ensures
