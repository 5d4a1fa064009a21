use Rattle.std.proofs.Common.{rules}
use Rattle.std.proofs.lemmas.Int.{to_z-of_z}
use Rattle.std.specs.Int.{w128}
use Rattle.pv_walk_collections.proofs.ScalarItems.{int_item}
use Rattle.pv_walk_collections.proofs.collections.Collections.item.Goals as goal

pub returns-in-Some-plain_int : goal.returns-in-Some-plain_int
returns-in-Some-plain_int g c =
    rw (to_z-of_z w128 c.in-Some-plain_int.n (search rules))
    (int_item c.args.out.now c.args.place c.args.kind c.args.item.now _ _ _ _ _ (c.in-Some.ensures c.args.item.now) (c.in-Some-plain_int.ensures c.in-Some.node.strict))
