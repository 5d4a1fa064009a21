use Rattle.std.proofs.Common.{rules}
use Rattle.pv_notation.specs.Compact.{compact, compact_member}
use Rattle.pv_notation.proofs.Fronts.{front_past, front_same, stopped}
use Rattle.pv_notation.proofs.Joins.{all_joined}
use Rattle.pv_notation.proofs.Objects.{object_written}
use Rattle.pv_notation.proofs.trees.+tree.Goals as goal

pub write_items-returns-clause-ok : goal.write_items-returns-clause-ok
write_items-returns-clause-ok t c =
    all_joined compact _ _ _ c.args.items.now c.in-Some.rest.now c.in-Some.first.now c.loop-tree.tree-index (search rules) c.in_ok-write_part.ensures.ok c.loop-tree.invariant c.loop-tree-test.false

pub write_members-returns-clause-ok : goal.write_members-returns-clause-ok
write_members-returns-clause-ok t c =
    all_joined compact_member _ _ _ c.args.members.now.members c.in-Some.rest.now c.in-Some.field-0-0.now c.loop-name.name-index (search rules) (search rules) c.loop-name.invariant c.loop-name-test.false

pub write_part-returns-in_ok-push-in-Object-2-clause-ok :
    goal.write_part-returns-in_ok-push-in-Object-2-clause-ok
write_part-returns-in_ok-push-in-Object-2-clause-ok t c = object_written _ _ _ _ _ c.in-Object.members c.in-Object.is c.in_ok-push-in-Object.ensures.ok (search rules) c.in_ok-push-in-Object-2.ensures.ok

-- what a writer that stops leaves: what was written before it, and what it left itself
pub write_member-returns-in_err-write_quoted-clause-err :
    goal.write_member-returns-in_err-write_quoted-clause-err
write_member-returns-in_err-write_quoted-clause-err t c = stopped _ (front_same _ _ c.in_err-write_quoted.ensures.err)

pub write_member-returns-in_err-push-clause-err : goal.write_member-returns-in_err-push-clause-err
write_member-returns-in_err-push-clause-err t c = stopped _ (front_past _ _ _ _ c.in_ok-write_quoted.ensures.ok (front_same _ _ c.in_err-push.ensures.err))

pub write_member-returns-in_err-write_part-clause-err :
    goal.write_member-returns-in_err-write_part-clause-err
write_member-returns-in_err-write_part-clause-err t c =
    stopped _ (front_past _ _ _ _ c.in_ok-write_quoted.ensures.ok (front_past _ _ _ _ c.in_ok-push.ensures.ok c.in_err-write_part.ensures.err))

pub write_items-returns-in_err-write_part-clause-err :
    goal.write_items-returns-in_err-write_part-clause-err
write_items-returns-in_err-write_part-clause-err t c = stopped _ c.in_err-write_part.ensures.err

pub write_items-returns-in_err-push-clause-err : goal.write_items-returns-in_err-push-clause-err
write_items-returns-in_err-push-clause-err t c =
    stopped _ (front_past _ _ _ _ c.in_ok-write_part.ensures.ok (front_past _ _ _ _ c.loop-tree.invariant (front_same _ _ c.in_err-push.ensures.err)))

pub write_items-returns-in_err-write_part-2-clause-err :
    goal.write_items-returns-in_err-write_part-2-clause-err
write_items-returns-in_err-write_part-2-clause-err t c =
    stopped _ (front_past _ _ _ _ c.in_ok-write_part.ensures.ok (front_past _ _ _ _ c.loop-tree.invariant (front_past _ _ _ _ c.in_ok-push.ensures.ok c.in_err-write_part-2.ensures.err)))

pub write_members-returns-in_err-write_member-clause-err :
    goal.write_members-returns-in_err-write_member-clause-err
write_members-returns-in_err-write_member-clause-err t c = stopped _ c.in_err-write_member.ensures.err

pub write_members-returns-in_err-push-clause-err : goal.write_members-returns-in_err-push-clause-err
write_members-returns-in_err-push-clause-err t c =
    stopped _ (front_past _ _ _ _ c.in_ok-write_member.ensures.ok (front_past _ _ _ _ c.loop-name.invariant (front_same _ _ c.in_err-push.ensures.err)))

pub write_members-returns-in_err-write_member-2-clause-err :
    goal.write_members-returns-in_err-write_member-2-clause-err
write_members-returns-in_err-write_member-2-clause-err t c =
    stopped _ (front_past _ _ _ _ c.in_ok-write_member.ensures.ok (front_past _ _ _ _ c.loop-name.invariant (front_past _ _ _ _ c.in_ok-push.ensures.ok c.in_err-write_member-2.ensures.err)))

pub write_part-returns-in_err-push_slice-in-Null-clause-err :
    goal.write_part-returns-in_err-push_slice-in-Null-clause-err
write_part-returns-in_err-push_slice-in-Null-clause-err t c = stopped _ (front_same _ _ c.in_err-push_slice-in-Null.ensures.err)

pub write_part-returns-in_err-push_slice-in-Bool-true-clause-err :
    goal.write_part-returns-in_err-push_slice-in-Bool-true-clause-err
write_part-returns-in_err-push_slice-in-Bool-true-clause-err t c = stopped _ (front_same _ _ c.in_err-push_slice-in-Bool-true.ensures.err)

pub write_part-returns-in_err-push_slice-in-Bool-false-clause-err :
    goal.write_part-returns-in_err-push_slice-in-Bool-false-clause-err
write_part-returns-in_err-push_slice-in-Bool-false-clause-err t c = stopped _ (front_same _ _ c.in_err-push_slice-in-Bool-false.ensures.err)

pub write_part-returns-in_err-push_slice-in-Num-clause-err :
    goal.write_part-returns-in_err-push_slice-in-Num-clause-err
write_part-returns-in_err-push_slice-in-Num-clause-err t c = stopped _ (front_same _ _ c.in_err-push_slice-in-Num.ensures.err)

pub write_part-returns-in_err-write_quoted-in-Str-clause-err :
    goal.write_part-returns-in_err-write_quoted-in-Str-clause-err
write_part-returns-in_err-write_quoted-in-Str-clause-err t c = stopped _ (front_same _ _ c.in_err-write_quoted-in-Str.ensures.err)

pub write_part-returns-in_err-push-in-Array-clause-err :
    goal.write_part-returns-in_err-push-in-Array-clause-err
write_part-returns-in_err-push-in-Array-clause-err t c = stopped _ (front_same _ _ c.in_err-push-in-Array.ensures.err)

pub write_part-returns-in_err-write_items-in-Array-clause-err :
    goal.write_part-returns-in_err-write_items-in-Array-clause-err
write_part-returns-in_err-write_items-in-Array-clause-err t c = stopped _ (front_past _ _ _ _ c.in_ok-push-in-Array.ensures.ok c.in_err-write_items-in-Array.ensures.err)

pub write_part-returns-in_err-push-in-Array-2-clause-err :
    goal.write_part-returns-in_err-push-in-Array-2-clause-err
write_part-returns-in_err-push-in-Array-2-clause-err t c =
    stopped _ (front_past _ _ _ _ c.in_ok-push-in-Array.ensures.ok (front_past _ _ _ _ c.in_ok-write_items-in-Array.ensures.ok (front_same _ _ c.in_err-push-in-Array-2.ensures.err)))

pub write_part-returns-in_err-push-in-Object-clause-err :
    goal.write_part-returns-in_err-push-in-Object-clause-err
write_part-returns-in_err-push-in-Object-clause-err t c = stopped _ (front_same _ _ c.in_err-push-in-Object.ensures.err)

pub write_part-returns-in_err-write_members-in-Object-clause-err :
    goal.write_part-returns-in_err-write_members-in-Object-clause-err
write_part-returns-in_err-write_members-in-Object-clause-err t c = stopped _ (front_past _ _ _ _ c.in_ok-push-in-Object.ensures.ok c.in_err-write_members-in-Object.ensures.err)

pub write_part-returns-in_err-push-in-Object-2-clause-err :
    goal.write_part-returns-in_err-push-in-Object-2-clause-err
write_part-returns-in_err-push-in-Object-2-clause-err t c =
    stopped _ (front_past _ _ _ _ c.in_ok-push-in-Object.ensures.ok (front_past _ _ _ _ c.in_ok-write_members-in-Object.ensures.ok (front_same _ _ c.in_err-push-in-Object-2.ensures.err)))
