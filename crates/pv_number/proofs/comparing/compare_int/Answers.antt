use Rattle.std.proofs.Common.{arith}
use Rattle.std.proofs.lemmas.Int.{to_z-of_z}
use Rattle.std.specs.Int.{w128}
use Rattle.pv_number.specs.ExactNumber.{number}
use Rattle.pv_number.specs.NumberEquality.{int_number}
use Rattle.pv_number.proofs.NumberOrder.{int_order, int_value}
use Rattle.pv_number.proofs.NumberLaws.{same_answer}
use Rattle.pv_number.proofs.comparing.compare_int.Goals as goal

pub returns-clause-order : goal.returns-clause-order
returns-clause-order c =
    int_order c.compare_decimals.result (number c.args.a.now) (int_number c.args.n) c.of.result c.integer-int.result c.compare_decimals.ensures c.of.ensures
    (int_value _ c.args.n _ c.write_digits-start.new.buffer c.write_digits-start.result _ (to_z-of_z w128 c.args.n c.ranges.n) (omega arith) c.integer-int.ensures c.write_digits-start.ensures.value c.unsigned_abs.ensures.value)

pub returns-clause-equal : goal.returns-clause-equal
returns-clause-equal c = same_answer c.compare_decimals.result (number c.args.a.now) (int_number c.args.n) (returns-clause-order c)
