use Rattle.std.proofs.Common.{ℕ, List, All, subst}
use Rattle.std.specs.Prelude.{IsUtf8}
use Rattle.pv_tree.specs.declared.Tree.{Tree}
use Rattle.pv_notation.specs.Compact.{compact, compact_member}
use Rattle.pv_notation.proofs.Holding.{one_more, all_of}
use Rattle.pv_union.proofs.CompactUtf8.{member_utf8, utf8_bool, utf8_num, utf8_str, utf8_array, utf8_object}
use Rattle.pv_union.proofs.compact_text.+utf8.Goals as goal

abbrev TreeUtf8 : Tree → Type 0
TreeUtf8 t = IsUtf8 (compact t)

abbrev MemberUtf8 : List ℕ × Tree → Type 0
MemberUtf8 m = IsUtf8 (compact_member m)

pub list_is_utf8-loop-tree-preserved : goal.list_is_utf8-loop-tree-preserved
list_is_utf8-loop-tree-preserved t c =
    one_more TreeUtf8 c.args.trees.now c.loop-tree.tree-index c.tree-item.result c.loop-tree-test.true c.tree-item.is c.tree_is_utf8.ensures c.loop-tree.invariant

pub list_is_utf8-returns : goal.list_is_utf8-returns
list_is_utf8-returns t c = all_of TreeUtf8 c.args.trees.now c.loop-tree.tree-index c.loop-tree-test.false c.loop-tree.invariant

pub members_are_utf8-loop-name-preserved : goal.members_are_utf8-loop-name-preserved
members_are_utf8-loop-name-preserved t c =
    let name = subst IsUtf8 c.as_str-name.ensures c.as_str-name.utf8 in
    one_more MemberUtf8 c.as_slice-name-items.result.now c.loop-name.name-index c.loop-name-item.result c.loop-name-test.true c.loop-name-item.is
    (member_utf8 c.loop-name-item.result.0 c.loop-name-item.result.1 name c.tree_is_utf8.ensures) c.loop-name.invariant

pub members_are_utf8-returns : goal.members_are_utf8-returns
members_are_utf8-returns t c =
    subst (All MemberUtf8) c.as_slice-name-items.ensures.value
    (all_of MemberUtf8 c.as_slice-name-items.result.now c.loop-name.name-index c.loop-name-test.false c.loop-name.invariant)

pub tree_is_utf8-returns-in-Bool : goal.tree_is_utf8-returns-in-Bool
tree_is_utf8-returns-in-Bool t c = utf8_bool c.args.tree.now c.in-Bool.field-0 c.in-Bool.is

pub tree_is_utf8-returns-in-Num : goal.tree_is_utf8-returns-in-Num
tree_is_utf8-returns-in-Num t c =
    utf8_num c.args.tree.now c.in-Num.lexeme c.as_slice-bytes.result.now c.in-Num.is c.as_slice-bytes.ensures.value c.as_slice-bytes.ensures.number

pub tree_is_utf8-returns-in-Str : goal.tree_is_utf8-returns-in-Str
tree_is_utf8-returns-in-Str t c = utf8_str c.args.tree.now c.in-Str.text c.as_str-text.result.now c.in-Str.is c.as_str-text.ensures c.as_str-text.utf8

pub tree_is_utf8-returns-in-Array : goal.tree_is_utf8-returns-in-Array
tree_is_utf8-returns-in-Array t c =
    utf8_array c.args.tree.now c.in-Array.trees c.in-Array.is (subst (All TreeUtf8) c.as_slice.ensures c.list_is_utf8.ensures)

pub tree_is_utf8-returns-in-Object : goal.tree_is_utf8-returns-in-Object
tree_is_utf8-returns-in-Object t c = utf8_object c.args.tree.now c.in-Object.members c.in-Object.is c.members_are_utf8.ensures
