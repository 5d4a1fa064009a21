-- Why the references of a schema cannot be followed.
use Rattle.std.specs.Prelude.{◌≡◌, ℕ, List, [], ◌∷◌, Option, None, Some, Result, Ok, Err}
use Rattle.std.specs.Option.{option_map, option_or}
use Rattle.pv_node.specs.declared.Node.{Node}
use Rattle.pv_references.specs.Names.{first_duplicate, first_undefined}
use Rattle.pv_references.specs.Cycles.{cycle_names}
use Rattle.pv_references.specs.declared.faults.NoReferences.{NoReferences}
use Rattle.pv_references.specs.declared.faults.NoReferences.TheVariants as fault

-- what is wrong with the references of a schema
pub data BadReferences : Type 0 where
  duplicate_ref : List ℕ → BadReferences
  undefined_ref : List ℕ → BadReferences
  empty_cycle : List (List ℕ) → BadReferences

-- an empty cycle where it has names
abbrev pub cycle_of : List (List ℕ) → Option BadReferences
cycle_of [] = None
cycle_of (name ∷ names) = Some (empty_cycle (name ∷ names))

-- what is wrong first: a name that stands twice, then a name that no node has, then a cycle
unfoldable pub no_references : Node → Option BadReferences
no_references root =
    option_or (option_map duplicate_ref (first_duplicate root))
    (option_or (option_map undefined_ref (first_undefined root))
    (cycle_of (cycle_names root)))

-- a fault tells what is wrong; want of memory says nothing
abbrev pub Tells : NoReferences → Option BadReferences → Type 0
Tells fault.Memory reason = Unit {0}
Tells (fault.DuplicateRef name) reason = reason ≡ Some (duplicate_ref name)
Tells (fault.UndefinedRef name) reason = reason ≡ Some (undefined_ref name)
Tells (fault.EmptyCycle names) reason = reason ≡ Some (empty_cycle names)

-- a value where nothing is wrong, else what is
abbrev pub Passes : {T : Type 0} → Result T NoReferences → Option BadReferences → Type 0
Passes (Ok x) reason = reason ≡ None
Passes (Err e) reason = Tells e reason
