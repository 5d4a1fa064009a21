-- Outcomes that succeed or fail, and whether one of some children gives an outcome.
use Rattle.std.specs.Prelude.{◌≡◌, List}
use Rattle.std.specs.List.{Contains}
use Rattle.pv_tree.specs.declared.Tree.{Tree}
use Rattle.pv_fault.specs.declared.Outcome.{Outcome}
use Rattle.pv_fault.specs.declared.Outcome.TheVariants.{Good, Bad}
use Rattle.pv_walk.specs.Rules.{Child}

-- a success
abbrev pub Succeeds : Outcome → Type 0
Succeeds (Good v g n) = Unit {0}
Succeeds (Bad es) = ⊥

-- a failure
abbrev pub Fails : Outcome → Type 0
Fails (Good v g n) = ⊥
Fails (Bad es) = Unit {0}

-- one of the children gives this for a tree
abbrev pub IsGivenByOne : List Child → Tree → Outcome → Type 0
IsGivenByOne children t o = (child : Child) × Contains children child × (child t ≡ o)
