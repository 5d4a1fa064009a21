use Rattle.std.proofs.Common.{arith}
use Rattle.std.proofs.lemmas.Grind.{common_steps}
use Rattle.pv_edge.proofs.HeldLemmas.{whole_piece}
use Rattle.pv_edge.proofs.mem_shelf.give.Goals as goal

pub returns-clause-bytes : goal.returns-clause-bytes
returns-clause-bytes c = rw c.copy_from_slice.ensures.after (grind (arith, common_steps, whole_piece))
