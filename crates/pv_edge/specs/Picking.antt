-- What the pick of a file answers.
use Rattle.std.specs.Prelude.{◌≡◌, ℕ, List, Option, Some, None, IsSome, MatchOption}
use Rattle.pv_edge.specs.Files.{file}
use Rattle.pv_edge.specs.Rising.{Rose}

-- where what is held is told, the name is held, and the bytes left to read are told and are those
-- of its file
abbrev pub Picks : Option (List (List ℕ × List ℕ)) → List ℕ → Option (List ℕ) → Type 0
Picks None name rest = Unit {0}
Picks (Some files) name rest = IsSome (file files name) × (rest ≡ file files name)

-- a pick fails with the count as it was where it is told that the name is not held, and else by a
-- fault alone
abbrev pub PickFails : Option (List (List ℕ × List ℕ)) → List ℕ → ℕ → ℕ → Type 0
PickFails None name before now = Rose before now
PickFails (Some files) name before now =
    MatchOption (file files name) (now ≡ before) (λ _. Rose before now)
