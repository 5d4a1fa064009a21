use Rattle.std.proofs.Common.{arith}
use Rattle.pv_number.proofs.Blocks.{whole_block}
use Rattle.pv_number.proofs.lexeme.Lexeme.from_number.Goals as goal

pub invariant_of-result : goal.invariant_of-result
invariant_of-result c = (
  omega (arith, c.len-len.ensures.value),
  whole_block c.in_ok-block.block c.args.b.now c.len-len.result c.in_ok-block.ensures c.len-len.ensures.value c.requires,
)
