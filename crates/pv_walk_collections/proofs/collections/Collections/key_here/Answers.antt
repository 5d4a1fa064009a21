use Rattle.std.proofs.Common.{map}
use Rattle.pv_walk.specs.Rules.{first}
use Rattle.pv_walk.specs.Nests.{below}
use Rattle.pv_walk_collections.proofs.Parts.{key_named}
use Rattle.pv_walk_collections.proofs.collections.Collections.key_here.Goals as goal

pub returns : goal.returns
returns g c = key_named (first (map (below g.O.Objects.functions c.args.self.now.level.now) c.args.children.now)) _ _ _ _ _ c.in_ok-share.ensures c.key_text-found.ensures
