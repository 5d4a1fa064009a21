use Rattle.std.proofs.Common.{◌≡◌, ◌∷◌, ◌++◌}
use Rattle.pv_distinct.specs.Keys.{joined}
use Rattle.pv_distinct.specs.declared.token.Token.TheVariants as token
use Rattle.pv_distinct.proofs.making.append_set.Given as goal

abbrev pub invariant-loop-key : goal.invariant-loop-key
invariant-loop-key l = l.out ++ joined l.key-iterator ≡ l.fn.out ++ token.Open ∷ joined l.fn.keys.keys
