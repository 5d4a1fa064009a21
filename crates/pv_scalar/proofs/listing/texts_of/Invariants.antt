use Rattle.std.proofs.Common.{◌≡◌, map, take}
use Rattle.pv_scalar.specs.Literals.{literal_text}
use Rattle.pv_scalar.proofs.listing.texts_of.Given as goal

abbrev pub invariant-loop-value : goal.invariant-loop-value
invariant-loop-value l = l.texts.items ≡ map literal_text (take l.value-index l.values)
