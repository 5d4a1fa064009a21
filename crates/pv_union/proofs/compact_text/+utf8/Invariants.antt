use Rattle.std.proofs.Common.{All, take}
use Rattle.std.specs.Prelude.{IsUtf8}
use Rattle.pv_notation.specs.Compact.{compact, compact_member}
use Rattle.pv_union.proofs.compact_text.+utf8.Given as goal

abbrev pub invariant-list_is_utf8-loop-tree : goal.invariant-list_is_utf8-loop-tree
invariant-list_is_utf8-loop-tree l = All (λ t. IsUtf8 (compact t)) (take l.tree-index l.trees)

abbrev pub invariant-members_are_utf8-loop-name : goal.invariant-members_are_utf8-loop-name
invariant-members_are_utf8-loop-name l = All (λ m. IsUtf8 (compact_member m)) (take l.name-index l.name-items)
