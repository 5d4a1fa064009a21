-- What the calls that read picks answer.
use Rattle.std.specs.Prelude.{◌≡◌, List, ◌∷◌, Result, Ok, Err}
use Rattle.pv_tree.specs.declared.Step.{Step}
use Rattle.pv_ser.specs.declared.pick.PickFault.{PickFault}
use Rattle.pv_ser.specs.declared.pick.PickFault.TheVariants as fault

-- an answer, seen so, is what is read, or it is the way to the first part that cannot stand there;
-- want of memory says nothing
abbrev pub AnswersAs : {T X : Type 0} → (T → X) → Result T PickFault → Result X (List Step) → Type 0
AnswersAs seen (Ok x) r = r ≡ Ok (seen x)
AnswersAs seen (Err fault.Memory) r = Unit {0}
AnswersAs seen (Err (fault.Shape way)) r = r ≡ Err way

-- the same of what is seen as itself
abbrev pub Answers : {T : Type 0} → Result T PickFault → Result T (List Step) → Type 0
Answers answer r = AnswersAs (λ x. x) answer r

-- a fault seen from one step further out
abbrev pub IsUnder : Step → PickFault → PickFault → Type 0
IsUnder step fault.Memory fault.Memory = Unit {0}
IsUnder step fault.Memory (fault.Shape way) = ⊥
IsUnder step (fault.Shape way) fault.Memory = Unit {0}
IsUnder step (fault.Shape way) (fault.Shape further) = further ≡ step ∷ way
