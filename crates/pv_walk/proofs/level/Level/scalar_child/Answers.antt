use Rattle.pv_walk.proofs.ScalarChildren.{first_scalar}
use Rattle.pv_walk.proofs.level.Level.scalar_child.Goals as goal

pub returns-else-self-eq0 : goal.returns-else-self-eq0
returns-else-self-eq0 g c = first_scalar (g.O.Objects.functions c.args.self.now.objects.now) c.args.self.now.scene.now c.args.self.now.depth c.args.children.now c.scalar.result c.in-len1-up.len_at_least c.if-self-eq0.false c.scalar.ensures
