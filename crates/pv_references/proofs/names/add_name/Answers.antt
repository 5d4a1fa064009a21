use Rattle.std.proofs.Common.{rules, ◌≡◌, Some, None}
use Rattle.std.specs.BTreeMap.{get}
use Rattle.pv_tree.specs.Merging.{name_cmp}
use Rattle.pv_references.proofs.Naming.{unnamed, named_before, named_new}
use Rattle.pv_references.proofs.names.add_name.Goals as goal

pub returns-in_default : goal.returns-in_default
returns-in_default c earlier size index = unnamed c.args.numbers.now earlier c.args.node.now c.in_default.is index

pub returns-in-Some-copied : goal.returns-in-Some-copied
returns-in-Some-copied c earlier size index =
    let there : get name_cmp c.args.numbers.now c.in-Some.name ≡ Some c.in-Some-copied.field-0 = search rules in
    named_before c.args.numbers.now earlier c.args.node.now c.in-Some.name c.in-Some-copied.field-0 c.in-Some.is there index

pub returns-in_ok-insert-in-None : goal.returns-in_ok-insert-in-None
returns-in_ok-insert-in-None c earlier size index =
    let absent : get name_cmp c.args.numbers.now c.in-Some.name ≡ None = search rules in
    named_new c.args.numbers.now c.insert.new.self earlier c.args.node.now c.in-Some.name c.in_ok-share-in-None.field-0 c.args.place c.in_ok-own-in-None.own
    c.in-Some.is absent c.in_ok-share-in-None.ensures size c.in_ok-own-in-None.ensures c.in_ok-insert-in-None.ensures.updates index
