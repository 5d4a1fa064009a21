use Rattle.std.proofs.Common.{rules, refl}
use Rattle.pv_tree.proofs.PlainObjects.{object_made}
use Rattle.pv_tree.proofs.plain.+plain.Goals as goal

pub plain_value-returns-in_ok-plain_members-in-Object : goal.plain_value-returns-in_ok-plain_members-in-Object
plain_value-returns-in_ok-plain_members-in-Object t c = object_made _ _ c.in-Object.members _ c.in-Object.is (search rules) refl
