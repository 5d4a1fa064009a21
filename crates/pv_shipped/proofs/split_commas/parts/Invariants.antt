use Rattle.std.proofs.Common.{◌≡◌, map}
use Rattle.pv_tree.specs.declared.Tree.TheVariants as tree
use Rattle.pv_shipped.proofs.split_commas.parts.Given as goal

abbrev pub invariant-loop-part : goal.invariant-loop-part
invariant-loop-part l = l.all.items ≡ map tree.Str (map (λ x. x.now) l.yielded)
