use Rattle.std.proofs.Common.{ℕ, List, All, subst}
use Rattle.pv_tree.specs.declared.Tree.{Tree}
use Rattle.pv_notation.specs.Numbers.{HasNumbers}
use Rattle.pv_notation.proofs.Holding.{one_more, all_of}
use Rattle.pv_notation.proofs.TreeNumbers.{numbers_num}
use Rattle.pv_notation.proofs.laws.+numbers.Goals as goal

abbrev MemberNumbers : List ℕ × Tree → Type 0
MemberNumbers m = HasNumbers m.1

pub list_has_numbers-loop-tree-preserved : goal.list_has_numbers-loop-tree-preserved
list_has_numbers-loop-tree-preserved t c =
    one_more HasNumbers c.args.trees.now c.loop-tree.tree-index c.tree-item.result c.loop-tree-test.true c.tree-item.is c.trees_have_numbers.ensures c.loop-tree.invariant

pub list_has_numbers-returns : goal.list_has_numbers-returns
list_has_numbers-returns t c = all_of HasNumbers c.args.trees.now c.loop-tree.tree-index c.loop-tree-test.false c.loop-tree.invariant

pub members_have_numbers-loop-tree-preserved : goal.members_have_numbers-loop-tree-preserved
members_have_numbers-loop-tree-preserved t c =
    one_more MemberNumbers c.as_slice-tree-items.result.now c.loop-tree.tree-index c.loop-tree-item.result c.loop-tree-test.true c.loop-tree-item.is c.trees_have_numbers.ensures c.loop-tree.invariant

pub members_have_numbers-returns : goal.members_have_numbers-returns
members_have_numbers-returns t c =
    subst (All MemberNumbers) c.as_slice-tree-items.ensures.value
    (all_of MemberNumbers c.as_slice-tree-items.result.now c.loop-tree.tree-index c.loop-tree-test.false c.loop-tree.invariant)

pub trees_have_numbers-returns-in-Num : goal.trees_have_numbers-returns-in-Num
trees_have_numbers-returns-in-Num t c =
    numbers_num c.args.tree.now c.in-Num.lexeme c.as_slice-bytes.result.now c.in-Num.is c.as_slice-bytes.ensures.value c.as_slice-bytes.ensures.number
