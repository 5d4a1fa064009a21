use Rattle.std.proofs.Common.{sym, ap, ◌∙◌}
use Rattle.pv_collect.specs.Gathering.{missing_of}
use Rattle.pv_walk.proofs.Walking.{adds_same}
use Rattle.pv_walk_collections.proofs.Parts.{items_bad, items_good, items_fault}
use Rattle.pv_walk_collections.proofs.collections.Collections.finish_items.Goals as goal

pub returns-then-len-mark : goal.returns-then-len-mark
returns-then-len-mark g c start ps h mark =
    items_bad _ _ _ _ _ _ _ _ h (adds_same _ _ _ _ (ap (λ w. missing_of w c.args.items c.args.tree.now) c.wanted.ensures) c.in_ok-push_all_missing.ensures)
    (λ e. c.if-len-mark.true (c.len.ensures ∙ e ∙ sym mark))

pub returns-in-Ok : goal.returns-in-Ok
returns-in-Ok g c start ps h mark =
    items_good _ _ _ _ _ _ _ _ h (adds_same _ _ _ _ (ap (λ w. missing_of w c.args.items c.args.tree.now) c.wanted.ensures) c.in_ok-push_all_missing.ensures)
    _ (sym c.len.ensures ∙ c.if-len-mark.false ∙ mark) (sym c.in-Ok.is ∙ c.in_ok-good.ensures)

pub returns-in-Err : goal.returns-in-Err
returns-in-Err g c start ps h mark =
    items_fault _ _ _ _ _ _ _ _ h (adds_same _ _ _ _ (ap (λ w. missing_of w c.args.items c.args.tree.now) c.wanted.ensures) c.in_ok-push_all_missing.ensures)
    _ _ _ (sym c.len.ensures ∙ c.if-len-mark.false ∙ mark) (sym c.in-Err.is ∙ c.in_ok-good.ensures) c.fail.ensures
