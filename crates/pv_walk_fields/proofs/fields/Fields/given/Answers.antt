use Rattle.std.proofs.Common.{refl, ap, ◌++◌, ◌∙◌}
use Rattle.pv_walk_fields.proofs.FieldTurns.{walked_at}
use Rattle.pv_walk_fields.proofs.fields.Fields.given.Goals as goal

pub returns : goal.returns
returns g c =
    walked_at _ _ _ _ _ _ _ _ c.len-len.ensures (c.in_ok-enter.ensures.path ∙ ap (λ steps. c.args.out.now.path ++ steps) c.as_slice.ensures)
    c.in_ok-enter.ensures.errors c.in_ok-found.ensures c.cut.ensures refl
