use Rattle.std.proofs.Common.{map}
use Rattle.pv_distinct.proofs.Chains.{AscendTo}
use Rattle.pv_distinct.proofs.ascending.have_ascending_keys.Given as goal

abbrev pub invariant-loop-i : goal.invariant-loop-i
invariant-loop-i l = AscendTo (map (λ e. e.0) l.entries) l.i
