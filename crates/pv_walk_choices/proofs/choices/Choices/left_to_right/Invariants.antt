use Rattle.pv_walk_choices.specs.Members.{given_by}
use Rattle.pv_walk_choices.proofs.Choosing.{Failing}
use Rattle.pv_walk_choices.proofs.choices.Choices.left_to_right.Given as goal

abbrev pub invariant-loop-place : goal.invariant-loop-place
invariant-loop-place g l = Failing l.fn.out l.out l.labels (given_by g.O.Objects.functions l.self.level.now l.children l.tree) l.place
