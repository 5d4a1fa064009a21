use Rattle.std.proofs.Common.{arith, map, sym, ◌∙◌}
use Rattle.pv_walk.specs.Rules.{first, second}
use Rattle.pv_walk.specs.Nests.{below}
use Rattle.pv_walk_collections.proofs.Parts.{pairs_start}
use Rattle.pv_walk_collections.proofs.Turns.{members_next, members_all}
use Rattle.pv_walk_collections.proofs.collections.Collections.members.Goals as goal

pub loop-name-init : goal.loop-name-init
loop-name-init g c = pairs_start _ _ _ c.in_ok-kept.ensures

pub loop-name-preserved : goal.loop-name-preserved
loop-name-preserved g c =
    members_next (first (map (below g.O.Objects.functions c.args.self.now.level.now) c.args.children.now)) (second (map (below g.O.Objects.functions c.args.self.now.level.now) c.args.children.now)) c.args.members.now c.loop-name.name-index c.loop-name-item.result _ _ _ _ _ _ _ _
    (omega arith) c.loop-name-item.is c.loop-name.invariant c.in_ok-key.ensures (λ e. c.in_ok-take.ensures.keeps (c.len.ensures ∙ e ∙ sym c.len-mark.ensures))

pub returns : goal.returns
returns g c = c.finish_entries.ensures _ _ (members_all (first (map (below g.O.Objects.functions c.args.self.now.level.now) c.args.children.now)) (second (map (below g.O.Objects.functions c.args.self.now.level.now) c.args.children.now)) c.args.members.now c.loop-name.name-index _ _ _ _ c.loop-name-test.false c.loop-name.invariant) c.len-mark.ensures
