-- Why a schema has no plan: the first that comes of references that cannot be followed, a function
-- that is not there, a function of another kind, and a pattern that cannot be read.
use Rattle.std.specs.Prelude.{◌≡◌, ℕ, ◌++◌, List, Option, None, Some, Result, Ok, Err}
use Rattle.std.specs.Option.{option_map, option_or}
use Rattle.pv_func.specs.Functions.{Named, Meaning}
use Rattle.pv_node.specs.declared.Node.{Node}
use Rattle.pv_node.specs.Places.{Path}
use Rattle.pv_references.specs.Faults as references
use Rattle.pv_references.specs.Faults.{BadReferences, no_references}
use Rattle.pv_plan.specs.BadPatterns.{bad_pattern}
use Rattle.pv_plan.specs.Functions.{first_unknown, first_wrong}
use Rattle.pv_plan.specs.declared.faults.BuildFault.{BuildFault}
use Rattle.pv_plan.specs.declared.faults.BuildFault.TheVariants as fault

-- why there is no plan
pub data NoPlan : Type 0 where
  duplicate_ref : List ℕ → NoPlan
  undefined_ref : List ℕ → NoPlan
  empty_cycle : List (List ℕ) → NoPlan
  unknown_function : List ℕ → NoPlan
  wrong_kind : List ℕ → NoPlan
  bad_pattern_at : Path → NoPlan

-- what is wrong with references, as a reason why there is no plan
abbrev pub for_references : BadReferences → NoPlan
for_references (references.duplicate_ref name) = duplicate_ref name
for_references (references.undefined_ref name) = undefined_ref name
for_references (references.empty_cycle names) = empty_cycle names

-- the first reason, by the functions that there are
unfoldable pub no_plan : Named Meaning → Node → Option NoPlan
no_plan fs root =
    option_or (option_map for_references (no_references root))
    (option_or (option_map unknown_function (first_unknown fs root))
    (option_or (option_map wrong_kind (first_wrong fs root))
    (option_map bad_pattern_at (bad_pattern root))))

-- a fault tells the reason; want of memory says nothing
abbrev pub Tells : BuildFault → Option NoPlan → Type 0
Tells fault.Memory reason = Unit {0}
Tells (fault.DuplicateRef name) reason = reason ≡ Some (duplicate_ref name)
Tells (fault.UndefinedRef name) reason = reason ≡ Some (undefined_ref name)
Tells (fault.EmptyCycle names) reason = reason ≡ Some (empty_cycle names)
Tells (fault.UnknownFunction name) reason = reason ≡ Some (unknown_function name)
Tells (fault.WrongFunctionKind name) reason = reason ≡ Some (wrong_kind name)
Tells (fault.BadPattern path) reason = reason ≡ Some (bad_pattern_at path)

-- a plan where there is no reason against it, else the reason
abbrev pub Builds : {T : Type 0} → Result T BuildFault → Option NoPlan → Type 0
Builds (Ok x) reason = reason ≡ None
Builds (Err e) reason = Tells e reason

-- of a search for bad patterns alone: want of memory says nothing
abbrev pub FailsBy : BuildFault → Option Path → Type 0
FailsBy fault.Memory bad = Unit {0}
FailsBy (fault.BadPattern path) bad = bad ≡ Some path
FailsBy (fault.DuplicateRef name) bad = ⊥
FailsBy (fault.UndefinedRef name) bad = ⊥
FailsBy (fault.EmptyCycle names) bad = ⊥
FailsBy (fault.UnknownFunction name) bad = ⊥
FailsBy (fault.WrongFunctionKind name) bad = ⊥

-- a value where no pattern is bad, and otherwise the path of the first that is
abbrev pub Finds : {T : Type 0} → Result T BuildFault → Option Path → Type 0
Finds (Ok x) bad = bad ≡ None
Finds (Err e) bad = FailsBy e bad

-- a fault seen from where these steps begin: a place within is seen from there
abbrev pub IsBehind : Path → BuildFault → BuildFault → Type 0
IsBehind steps fault.Memory longer = longer ≡ fault.Memory
IsBehind steps (fault.BadPattern path) fault.Memory = Unit {0}
IsBehind steps (fault.BadPattern path) longer = longer ≡ fault.BadPattern (steps ++ path)
IsBehind steps (fault.DuplicateRef name) longer = longer ≡ fault.DuplicateRef name
IsBehind steps (fault.UndefinedRef name) longer = longer ≡ fault.UndefinedRef name
IsBehind steps (fault.EmptyCycle names) longer = longer ≡ fault.EmptyCycle names
IsBehind steps (fault.UnknownFunction name) longer = longer ≡ fault.UnknownFunction name
IsBehind steps (fault.WrongFunctionKind name) longer = longer ≡ fault.WrongFunctionKind name
