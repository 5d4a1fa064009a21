use Rattle.std.proofs.Common.{arith, rules, ◌∙◌}
use Rattle.std.proofs.lemmas.Int.{ints, to_z-of_z}
use Rattle.std.specs.Int.{w128}
use Rattle.pv_number.proofs.Exponents.{stopped, difference_step}
use Rattle.pv_number.proofs.exponent.exponent_difference.Goals as goal

pub loop-rank-preserved : goal.loop-rank-preserved
loop-rank-preserved c =
    let fits = to_z-of_z w128 c.next_difference-difference.result (search rules) in (
      omega (arith, ints),
      omega (arith, ints),
      fits
          ∙ difference_step _ _ _ _ _ _ c.loop-rank.rank _ _ (omega arith) c.digit_of_rank.ensures.value c.digit_of_rank-in-loop-rank.ensures.value c.digit_of_rank.ensures.small c.digit_of_rank-in-loop-rank.ensures.small c.loop-rank.invariant.2
          (stopped _ _ _ c.next_difference-difference.ensures.value (omega (arith, ints))),
    )
