use Rattle.std.proofs.Common.{◌≡◌, take, map}
use Rattle.pv_tree.specs.declared.Step.TheVariants.{Name}
use Rattle.pv_cli.proofs.lines.steps_of.Given as goal

-- the steps of the names so far
abbrev pub invariant-loop-name : goal.invariant-loop-name
invariant-loop-name l = l.steps ≡ map (λ name. Name name) (take l.name-index l.names)
