use Rattle.std.proofs.Common.{◌≡◌, take}
use Rattle.pv_tree.proofs.+share.Given as goal

abbrev pub invariant-making::share_members-loop-name :
    goal.invariant-making::share_members-loop-name
invariant-making::share_members-loop-name l = l.all.items ≡ take l.name-index l.name-items

abbrev pub invariant-making::share_trees-loop-tree : goal.invariant-making::share_trees-loop-tree
invariant-making::share_trees-loop-tree l = l.all.items ≡ take l.tree-index l.tree-items
