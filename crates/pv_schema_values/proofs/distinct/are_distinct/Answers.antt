use Rattle.std.proofs.Common.{rules, ◌≡◌, length}
use Rattle.std.specs.Vec.{vec_len}
use Rattle.std.specs.HashSet as bag
use Rattle.pv_schema_values.proofs.Counts.{distinct_by_count}
use Rattle.pv_schema_values.proofs.distinct.are_distinct.Goals as goal

pub returns : goal.returns
returns g c =
    let from : bag.IsFromIterResult g.K.PartialEq.eq c.args.keys.items c.in_ok-set.set = search rules in
    let count : vec_len c.args.keys ≡ length c.args.keys.items = search rules in
    rw (c.len.ensures.len, c.len-count.ensures, count) (distinct_by_count g.met.K.Eq.laws c.args.keys.items c.in_ok-set.set from)
