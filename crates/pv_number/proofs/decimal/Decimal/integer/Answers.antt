use Rattle.pv_number.specs.Decimals.{exponent_of}
use Rattle.pv_number.proofs.NumberOrder.{integer_of}
use Rattle.pv_number.proofs.decimal.Decimal.integer.Goals as goal

pub returns : goal.returns
returns c = integer_of c.args.negative c.args.digits.now (exponent_of c.zero.result) c.zero.ensures
