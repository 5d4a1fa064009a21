use Rattle.std.proofs.Common.{sym, ◌∙◌}
use Rattle.pv_walk_fields.proofs.FieldTurns.{allowed_by, allowed_next}
use Rattle.pv_walk_fields.proofs.fields.Fields.extra.Goals as goal

pub returns-in_ok-extra-in-Allow : goal.returns-in_ok-extra-in-Allow
returns-in_ok-extra-in-Allow g c start fs es h mark =
    allowed_by _ _ _ _ _ _ _ _ _ _ _ (sym c.extra.ensures ∙ c.in-Allow.is)
    (allowed_next _ _ _ _ _ _ _ _ _ h _ _ _ _ _ _ mark c.len.ensures c.in_ok-found-in-Allow.ensures c.in_ok-extra-in-Allow.ensures.kept)
