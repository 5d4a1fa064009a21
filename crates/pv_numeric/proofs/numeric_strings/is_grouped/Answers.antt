use Rattle.std.proofs.Common.{arith}
use Rattle.pv_numeric.proofs.Digits.{groups_done, groups_stop}
use Rattle.pv_numeric.proofs.numeric_strings.is_grouped.Goals as goal

pub returns-then-not-may_stand : goal.returns-then-not-may_stand
returns-then-not-may_stand c =
    groups_stop c.args.digits.now c.loop-byte.byte-index c.loop-byte.follows_digit c.may_stand.result (omega arith) c.may_stand.ensures c.if-not-may_stand.true c.loop-byte.invariant

pub returns : goal.returns
returns c = groups_done c.args.digits.now c.loop-byte.byte-index c.loop-byte.follows_digit (omega arith) c.loop-byte.invariant
