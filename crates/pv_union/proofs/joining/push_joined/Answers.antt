use Rattle.std.proofs.Common.{rules}
use Rattle.pv_union.proofs.Joins.{joined_more}
use Rattle.pv_union.proofs.joining.push_joined.Goals as goal

pub returns : goal.returns
returns c =
    joined_more c.args.between.now c.as_str.result.now c.in-Some.rest.now c.args.texts.now _ _ _ (search rules) c.in_ok-push_str.ensures.bytes c.in_ok-push_rest.ensures
