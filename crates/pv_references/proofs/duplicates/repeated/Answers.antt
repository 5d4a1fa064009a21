use Rattle.std.proofs.Common.{rules, ◌≡◌, ◌∷◌, ◌<◌, Some, None, true, false, ap, sym, ◌∙◌, arith}
use Rattle.pv_references.specs.Numbers.{number_from, number_in}
use Rattle.pv_references.proofs.Repeating.{absent, among, behind, told}
use Rattle.pv_references.proofs.duplicates.repeated.Goals as goal

pub returns-in-None-find : goal.returns-in-None-find
returns-in-None-find c before after split size =
    let e : number_in c.args.names.now c.in-Some.name ≡ None = search rules in
    let f = ap (number_from 0 c.in-Some.name) (sym split) ∙ e in
    sym (told before c.args.node.now.own_ref c.in-Some.name false c.in-Some.is (absent c.in-Some.name 0 before (c.args.node.now ∷ after) f))

pub returns-then-number-place : goal.returns-then-number-place
returns-then-number-place c before after split size =
    let e : number_in c.args.names.now c.in-Some.name ≡ Some c.in-Some-find.number = search rules in
    let f = ap (number_from 0 c.in-Some.name) (sym split) ∙ e in
    let less : c.in-Some-find.number < c.args.place = c.if-number-place.true in
    sym (told before c.args.node.now.own_ref c.in-Some.name true c.in-Some.is (among c.in-Some.name 0 before (c.args.node.now ∷ after) c.in-Some-find.number (omega (arith, less, size)) f))

pub returns-else-number-place : goal.returns-else-number-place
returns-else-number-place c before after split size =
    let e : number_in c.args.names.now c.in-Some.name ≡ Some c.in-Some-find.number = search rules in
    let f = ap (number_from 0 c.in-Some.name) (sym split) ∙ e in
    let over = c.if-number-place.false in
    sym (told before c.args.node.now.own_ref c.in-Some.name false c.in-Some.is (behind c.in-Some.name 0 before (c.args.node.now ∷ after) c.in-Some-find.number (omega (arith, over, size)) f))
