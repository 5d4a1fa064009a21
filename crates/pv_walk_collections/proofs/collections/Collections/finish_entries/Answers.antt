use Rattle.std.proofs.Common.{sym, ◌∙◌}
use Rattle.pv_walk_collections.proofs.Parts.{pairs_bad, pairs_good, pairs_fault}
use Rattle.pv_walk_collections.proofs.collections.Collections.finish_entries.Goals as goal

pub returns-then-len-mark : goal.returns-then-len-mark
returns-then-len-mark g c start ps h mark = pairs_bad _ _ _ _ _ _ h (λ e. c.if-len-mark.true (c.len.ensures ∙ e ∙ sym mark))

pub returns-in-Ok : goal.returns-in-Ok
returns-in-Ok g c start ps h mark =
    pairs_good _ _ _ _ _ _ h _ (sym c.len.ensures ∙ c.if-len-mark.false ∙ mark) (sym c.in-Ok.is ∙ c.in_ok-good.ensures)

pub returns-in-Err : goal.returns-in-Err
returns-in-Err g c start ps h mark =
    pairs_fault _ _ _ _ _ _ h _ _ _ (sym c.len.ensures ∙ c.if-len-mark.false ∙ mark) (sym c.in-Err.is ∙ c.in_ok-good.ensures) c.fail.ensures
