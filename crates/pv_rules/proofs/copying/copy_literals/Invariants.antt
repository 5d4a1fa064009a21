use Rattle.std.proofs.Common.{◌≡◌, take}
use Rattle.pv_rules.proofs.copying.copy_literals.Given as goal

abbrev pub invariant-loop-literal : goal.invariant-loop-literal
invariant-loop-literal l = l.copied.items ≡ take l.literal-index l.literals
