use Rattle.std.proofs.Common.{◌≡◌, ◌∷◌, ◌++◌, take}
use Rattle.std.specs.List.{flat_map}
use Rattle.pv_notation.specs.Compact.{compact, compact_member}
use Rattle.pv_notation.proofs.trees.+tree.Given as goal

abbrev pub invariant-write_items-loop-tree : goal.invariant-write_items-loop-tree
invariant-write_items-loop-tree l = l.out ≡ l.initial.out ++ flat_map (λ t. 44 ∷ compact t) (take l.tree-index l.rest)

abbrev pub invariant-write_members-loop-name : goal.invariant-write_members-loop-name
invariant-write_members-loop-name l = l.out ≡ l.initial.out ++ flat_map (λ m. 44 ∷ compact_member m) (take l.name-index l.rest)
