use Rattle.std.proofs.Common.{sym, ap, ◌∙◌}
use Rattle.std.specs.Prelude.{not, ◌&&◌}
use Rattle.pv_walk_collections.specs.Going.{is_hashable}
use Rattle.pv_walk_collections.proofs.Parts.{walked_hashed, walks_unhashable}
use Rattle.pv_walk_collections.proofs.collections.Collections.item_here.Goals as goal

pub returns-then-lacks_hash : goal.returns-then-lacks_hash
returns-then-lacks_hash g c =
    walks_unhashable _ _ _ _ _ _ _ _ _ c.in_ok-found.ensures
    (ap (λ b. b && not (is_hashable c.in_ok-found.found)) (sym c.needs_hash.ensures) ∙ sym c.if-lacks_hash.ensures) c.fail.ensures

pub returns : goal.returns
returns g c =
    walked_hashed _ _ _ _ _ _ _ c.in_ok-found.ensures
    (ap (λ b. b && not (is_hashable c.in_ok-found.found)) (sym c.needs_hash.ensures) ∙ sym c.if-lacks_hash.ensures)
