use Rattle.std.proofs.Common.{◌≡◌, ◌∷◌, ◌++◌, take}
use Rattle.std.specs.List.{flat_map}
use Rattle.pv_notation.specs.Strings.{quoted}
use Rattle.pv_notation.proofs.values.write_names.Given as goal

abbrev pub invariant-loop-name : goal.invariant-loop-name
invariant-loop-name l = l.out ≡ l.initial.out ++ flat_map (λ n. 44 ∷ quoted n) (take l.name-index l.rest)
