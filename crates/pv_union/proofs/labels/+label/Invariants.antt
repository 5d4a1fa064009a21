use Rattle.std.proofs.Common.{◌≡◌, ◌+◌, ◌++◌, drop, codes}
use Rattle.std.specs.Prelude.{string_bytes}
use Rattle.std.specs.List.{flat_map}
use Rattle.pv_union.specs.Labels.{label, position_labels}
use Rattle.pv_union.proofs.labels.+label.Given as goal

abbrev pub invariant-push_positions-loop-place : goal.invariant-push_positions-loop-place
invariant-push_positions-loop-place l =
    string_bytes l.out ++ flat_map (λ t. codes ", " ++ t) (position_labels label l.variadic (l.place + 1) (drop l.place l.rest))
    ≡ string_bytes l.initial.out ++ flat_map (λ t. codes ", " ++ t) (position_labels label l.variadic 1 l.rest)
