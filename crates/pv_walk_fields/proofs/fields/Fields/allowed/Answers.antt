use Rattle.std.proofs.Common.{refl, ap, ◌∷◌, ◌++◌, [], ◌∙◌}
use Rattle.pv_tree.specs.declared.Step.TheVariants.{Name}
use Rattle.pv_walk.proofs.Walking.{stepped}
use Rattle.pv_walk_fields.proofs.fields.Fields.allowed.Goals as goal

pub returns : goal.returns
returns g c =
    stepped _ _ _ _ _ _ _ _ c.len-len.ensures (c.in_ok-push.ensures.ok ∙ ap (λ t. c.args.out.now.path ++ Name t ∷ []) c.in_ok-share.ensures)
    refl c.in_ok-found.ensures c.cut.ensures refl
