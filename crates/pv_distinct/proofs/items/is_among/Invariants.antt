use Rattle.std.proofs.Common.{◌≡◌, false, take}
use Rattle.std.specs.List.{list_any}
use Rattle.pv_equality.specs.Equality.{same}
use Rattle.pv_distinct.proofs.items.is_among.Given as goal

abbrev pub invariant-loop-other : goal.invariant-loop-other
invariant-loop-other l = list_any (λ k. same k l.fn.value) (take l.other-index l.fn.kept) ≡ false
