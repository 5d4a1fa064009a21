use Rattle.std.proofs.Common.{rules, ◌≡◌, ◌∷◌, ◌++◌, codes, ap}
use Rattle.pv_union.specs.Labels.{label, after_position, position_labels}
use Rattle.pv_union.proofs.Joins.{joined_more, positions_end}
use Rattle.pv_union.proofs.labels.+label.Goals as goal

pub push_positions-returns : goal.push_positions-returns
push_positions-returns t c =
    let variadic = c.args.variadic in
    let first = c.in-Some.first.now in
    let rest = c.in-Some.rest.now in
    let split : c.args.items.now ≡ first ∷ rest = search rules in
    joined_more (codes ", ") (label first ++ after_position variadic 0) (position_labels label variadic 1 rest) (position_labels label variadic 0 c.args.items.now) _ _ _
    (ap (position_labels label variadic 0) split) c.in_ok-push_position.ensures
    (positions_end variadic c.loop-place.place rest _ _ c.loop-place-test.false c.loop-place.invariant)
