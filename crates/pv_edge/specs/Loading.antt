-- What `load` answers.
use Rattle.std.specs.Prelude.{◌≡◌, ℕ, ◌+◌, ◌<◌, ◌≤◌, List, [], length, Option, Some, None, unwrap_or, IsSomeAnd, MatchOption, IfSome}
use Rattle.pv_edge.specs.Files.{file}
use Rattle.pv_edge.specs.Rising.{Rose}
use Rattle.pv_edge.specs.declared.loading.LoadFault.{LoadFault}
use Rattle.pv_edge.specs.declared.loading.LoadFault.TheVariants.{Failed, TooLarge, Memory}

-- where what is held is told, this is the content of the file of that name
abbrev pub IsContent : Option (List (List ℕ × List ℕ)) → List ℕ → List ℕ → Type 0
IsContent None name bytes = Unit {0}
IsContent (Some files) name bytes = file files name ≡ Some bytes

-- a fault, or it is told that the name is not held
abbrev pub LoadFails : Option (List (List ℕ × List ℕ)) → List ℕ → ℕ → ℕ → Type 0
LoadFails None name before now = Rose before now
LoadFails (Some files) name before now =
    MatchOption (file files name) (Unit {0}) (λ _. Rose before now)

-- where what is held is told, the file of the name is held and has more bytes than the limit
abbrev pub IsOverLimit : Option (List (List ℕ × List ℕ)) → List ℕ → ℕ → Type 0
IsOverLimit None name limit = Unit {0}
IsOverLimit (Some files) name limit = IsSomeAnd (file files name) (λ bytes. limit < length bytes)

-- where what is held is told, no more bytes were given than the file of the name has, and none
-- where there is none
abbrev pub GivesUpToEnd : Option (List (List ℕ × List ℕ)) → List ℕ → ℕ → ℕ → Type 0
GivesUpToEnd None name before now = Unit {0}
GivesUpToEnd (Some files) name before now = now ≤ before + length (unwrap_or (file files name) [])

-- where the bytes left to read are told, no more than those were given
abbrev pub GivesWithin : Option (List ℕ) → ℕ → ℕ → Type 0
GivesWithin None before now = Unit {0}
GivesWithin (Some left) before now = now ≤ before + length left

-- one read fails by a fault, and then gives nothing, or there is no memory for what it gave
abbrev pub PieceFails : LoadFault → ℕ → ℕ → ℕ → ℕ → Type 0
PieceFails Memory faults_before faults_now given_before given_now = Unit {0}
PieceFails Failed faults_before faults_now given_before given_now =
    Rose faults_before faults_now × (given_now ≡ given_before)
PieceFails TooLarge faults_before faults_now given_before given_now = ⊥

-- reading to the end fails by a fault too, before more than the limit was given, or by one byte
-- more than the limit
abbrev pub ReadFails : LoadFault → Option (List ℕ) → ℕ → ℕ → ℕ → ℕ → ℕ → Type 0
ReadFails Memory rest limit faults_before faults_now given_before given_now = Unit {0}
ReadFails Failed rest limit faults_before faults_now given_before given_now =
    Rose faults_before faults_now × (given_now ≤ given_before + limit)
ReadFails TooLarge rest limit faults_before faults_now given_before given_now =
    (given_now ≡ given_before + limit + 1) × IfSome rest (λ left. limit < length left)
