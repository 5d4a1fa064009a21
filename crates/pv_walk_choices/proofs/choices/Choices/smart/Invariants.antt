use Rattle.pv_walk_choices.specs.Members.{given_by}
use Rattle.pv_walk_choices.proofs.Choosing.{Choosing}
use Rattle.pv_walk_choices.proofs.choices.Choices.smart.Given as goal

abbrev pub invariant-loop-place : goal.invariant-loop-place
invariant-loop-place g l = Choosing l.fn.out l.out l.labels (given_by g.O.Objects.functions l.self.level.now l.children l.tree) l.place l.best
