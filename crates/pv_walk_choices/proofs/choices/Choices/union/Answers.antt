use Rattle.pv_walk.specs.Nests.{below}
use Rattle.pv_walk_choices.proofs.Choosing.{alone, several}
use Rattle.pv_walk_choices.proofs.choices.Choices.union.Goals as goal

pub returns-then-children-eq1 : goal.returns-then-children-eq1
returns-then-children-eq1 g c =
    alone (below g.O.Objects.functions c.args.self.now.level.now) c.args.children.now c.args.tree.now c.args.left_to_right c.args.labels.now _ _ _
    c.if-children-eq1.true c.first.ensures

pub returns-then-left_to_right : goal.returns-then-left_to_right
returns-then-left_to_right g c =
    several (below g.O.Objects.functions c.args.self.now.level.now) c.args.children.now c.args.tree.now _ _ c.args.labels.now _ _ _
    c.if-left_to_right.true c.if-children-eq1.false c.left_to_right.ensures

pub returns-else-left_to_right : goal.returns-else-left_to_right
returns-else-left_to_right g c =
    several (below g.O.Objects.functions c.args.self.now.level.now) c.args.children.now c.args.tree.now _ _ c.args.labels.now _ _ _
    c.if-left_to_right.false c.if-children-eq1.false c.smart.ensures
