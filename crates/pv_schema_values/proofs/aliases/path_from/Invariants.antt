use Rattle.std.proofs.Common.{◌≡◌, ◌∷◌, ◌++◌}
use Rattle.pv_tree.specs.declared.Step.TheVariants.{Name}
use Rattle.pv_schema_values.proofs.aliases.path_from.Given as goal

abbrev pub invariant-loop-step : goal.invariant-loop-step
invariant-loop-step l = l.path ++ l.step-iterator.rest.items ≡ Name l.name ∷ l.fn.steps.items
