use Rattle.std.proofs.Common.{◌≡◌, List, ◌++◌, drop}
use Rattle.std.specs.Prelude.{Option, Some, None}
use Rattle.pv_schema_values.specs.Values.{all_of}
use Rattle.pv_schema_values.proofs.lists.all_of.Given as goal

-- the values that are there already, and then those of the rest
abbrev pub with_rest : {Y : Type 0} → List Y → Option (List Y) → Option (List Y)
with_rest ys None = None
with_rest ys (Some zs) = Some (ys ++ zs)

abbrev pub invariant-loop-item : goal.invariant-loop-item
invariant-loop-item g l = with_rest l.all.items (all_of g.T.FromTree.of (drop l.item-index l.items)) ≡ all_of g.T.FromTree.of l.items
