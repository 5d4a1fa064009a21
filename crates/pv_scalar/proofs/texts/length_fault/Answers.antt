use Rattle.std.proofs.Common.{refl}
use Rattle.pv_scalar.specs.Texts.{length_fault}
use Rattle.pv_scalar.proofs.texts.length_fault.Goals as goal

pub returns : goal.returns
unfolding length_fault
returns c = rw (c.or.ensures, c.too_short.ensures, c.too_long.ensures, c.or-min_length.ensures, c.or-max_length.ensures, c.char_count-count.ensures) refl
