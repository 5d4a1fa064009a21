use Rattle.std.proofs.Common.{◌-◌, length, get_or, arith}
use Rattle.pv_number.proofs.FewDigits.{few_fit, next_fits}
use Rattle.pv_number.proofs.short.short_natural.Goals as goal

pub overflow_mul-value : goal.overflow_mul-value
overflow_mul-value c = omega (
  arith,
  next_fits c.loop-b.value 9 c.loop-b.b-index (length c.args.s.now) c.loop-b.invariant.0
      (omega arith) (omega arith) (omega arith),
)

pub overflow_add-value : goal.overflow_add-value
overflow_add-value c = omega (
  arith,
  next_fits c.loop-b.value (get_or c.args.s.now c.loop-b.b-index 0 - 48) c.loop-b.b-index
      (length c.args.s.now) c.loop-b.invariant.0 (grind arith) (omega arith) (omega arith),
)

pub returns-clause-small : goal.returns-clause-small
returns-clause-small c = few_fit c.loop-b.value c.loop-b.b-index c.loop-b.invariant.0 (omega arith)
