use Rattle.std.proofs.Common.{All, take}
use Rattle.pv_notation.specs.Numbers.{HasNumbers}
use Rattle.pv_notation.proofs.laws.+numbers.Given as goal

abbrev pub invariant-list_has_numbers-loop-tree : goal.invariant-list_has_numbers-loop-tree
invariant-list_has_numbers-loop-tree l = All HasNumbers (take l.tree-index l.trees)

abbrev pub invariant-members_have_numbers-loop-tree : goal.invariant-members_have_numbers-loop-tree
invariant-members_have_numbers-loop-tree l = All (λ m. HasNumbers m.1) (take l.tree-index l.tree-items)
