-- What the checks of a schema answer: nothing is wrong, or the first of all that is wrong.
use Rattle.std.specs.Prelude.{◌≡◌, List, [], ◌∷◌, Option, None, Some, Result, Ok, Err}
use Rattle.pv_tree.specs.declared.Step.{Step}
use Rattle.pv_schema_check.specs.Checking.{under}
use Rattle.pv_schema_check.specs.declared.fault.Refusal.{Refusal}
use Rattle.pv_schema_check.specs.declared.check_fault.CheckFault.{CheckFault}
use Rattle.pv_schema_check.specs.declared.check_fault.CheckFault.TheVariants as fault

-- the first of several, where there is one
abbrev pub first : {X : Type 0} → List X → Option X
first [] = None
first (x ∷ xs) = Some x

-- a fault is the first of all that is wrong; want of memory says nothing
abbrev pub FailsBy : CheckFault → List Refusal → Type 0
FailsBy fault.Memory all = Unit {0}
FailsBy (fault.Refused r) all = first all ≡ Some r

-- an answer says what is wrong: nothing, or the first of all
abbrev pub Answers : {T : Type 0} → Result T CheckFault → List Refusal → Type 0
Answers (Ok x) all = all ≡ []
Answers (Err e) all = FailsBy e all

-- a refusal seen from the whole, where it is one step inside
abbrev pub IsUnder : Step → CheckFault → CheckFault → Type 0
IsUnder step fault.Memory fault.Memory = Unit {0}
IsUnder step fault.Memory (fault.Refused s) = ⊥
IsUnder step (fault.Refused r) fault.Memory = Unit {0}
IsUnder step (fault.Refused r) (fault.Refused s) = s ≡ under step r
