use Rattle.pv_distinct.proofs.Chains.{AscendTo}
use Rattle.pv_distinct.proofs.ascending.are_ascending.Given as goal

abbrev pub invariant-loop-i : goal.invariant-loop-i
invariant-loop-i l = AscendTo l.values l.i
