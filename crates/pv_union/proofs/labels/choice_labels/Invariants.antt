use Rattle.std.proofs.Common.{◌≡◌, ◌++◌, drop}
use Rattle.pv_union.specs.Labels as spec
use Rattle.pv_union.proofs.labels.choice_labels.Given as goal

abbrev pub invariant-loop-choice : goal.invariant-loop-choice
invariant-loop-choice l = l.labels.items ++ spec.choice_labels l.left (drop l.choice-index l.choices) ≡ spec.choice_labels l.owns l.choices
