use Rattle.std.proofs.Common.{◌≡◌, map, take}
use Rattle.pv_tree.specs.Plain.{plain, plain_member}
use Rattle.pv_tree.proofs.plain.+plain.Given as goal

abbrev pub invariant-plain_items-loop-item : goal.invariant-plain_items-loop-item
invariant-plain_items-loop-item l = l.all.items ≡ map plain (take l.item-index l.items)

abbrev pub invariant-plain_members-loop-name : goal.invariant-plain_members-loop-name
invariant-plain_members-loop-name l = l.all.items ≡ map plain_member (take l.name-index l.name-items)
