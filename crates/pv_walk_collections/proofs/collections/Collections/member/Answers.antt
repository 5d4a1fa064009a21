use Rattle.std.proofs.Common.{refl, ap, [], ◌∷◌, ◌++◌, ◌∙◌}
use Rattle.pv_tree.specs.declared.Step.TheVariants.{Name}
use Rattle.pv_walk_collections.proofs.Parts.{member_walked}
use Rattle.pv_walk_collections.proofs.collections.Collections.member.Goals as goal

pub returns-in-Ok : goal.returns-in-Ok
returns-in-Ok g c =
    member_walked _ _ _ _ _ _ _ _ _ _ _ c.len-len.ensures (c.in_ok-push.ensures.ok ∙ ap (λ t. c.args.out.now.path ++ Name t ∷ []) c.in_ok-share.ensures)
    refl c.in_ok-key.ensures c.in-Ok.ensures c.cut.ensures refl
