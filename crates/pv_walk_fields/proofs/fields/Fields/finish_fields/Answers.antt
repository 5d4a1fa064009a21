use Rattle.std.proofs.Common.{sym, ◌∙◌}
use Rattle.pv_walk_fields.proofs.FieldTurns.{fields_bad, fields_good}
use Rattle.pv_walk_fields.proofs.fields.Fields.finish_fields.Goals as goal

pub returns-then-len-object : goal.returns-then-len-object
returns-then-len-object g c start fs es h mark = fields_bad _ _ _ _ _ _ _ _ h (λ e. c.if-len-object.true (c.len.ensures ∙ e ∙ sym mark))

pub returns : goal.returns
returns g c start fs es h mark = fields_good _ _ _ _ _ _ _ _ h _ (sym c.len.ensures ∙ c.if-len-object.false ∙ mark) c.in_ok-good.ensures
