use Rattle.std.proofs.Common.{◌≡◌, map, take}
use Rattle.pv_rules.specs.declared.Literal.TheVariants as literal
use Rattle.pv_scalar.proofs.values.text_literals.Given as goal

abbrev pub invariant-loop-name : goal.invariant-loop-name
invariant-loop-name l = l.all.items ≡ map literal.Text (take l.name-index l.names)
