-- Faults seen from where the steps to them begin.
use Rattle.std.proofs.Common.{◌≡◌, ℕ, ◌+◌, drop, slice_get, List, [], ◌∷◌, ◌++◌, Bool, true, false, if◌then◌else◌, Option, Some, None, refl, ap, sym, subst, ◌∙◌}
use Rattle.std.specs.Option.{option_map, option_or}
use Rattle.std.proofs.lemmas.List.{append_assoc}
use Rattle.pv_node.specs.declared.Node.{Node}
use Rattle.pv_node.specs.Places.{Path, Slot, slots_of}
use Rattle.pv_func.specs.Functions.{Named, Meaning}
use Rattle.pv_node.specs.Preorder.{preorder, first_path, first_in, path_in, path_at}
use Rattle.pv_node.proofs.Firsts.{first_opens}
use Rattle.pv_references.proofs.Lists.{drop_here}
use Rattle.pv_references.specs.Faults.{BadReferences, no_references}
use Rattle.pv_plan.specs.declared.faults.BuildFault.{BuildFault}
use Rattle.pv_plan.specs.declared.faults.BuildFault.TheVariants as fault
use Rattle.pv_plan.specs.BadPatterns.{bad_pattern, bad_itself, bad_at, bad_in, has_bad_pattern, to_pattern}
use Rattle.pv_plan.specs.Functions.{unknown_at, wrong_at, first_unknown, first_wrong}
use Rattle.pv_plan.specs.Faults.{NoPlan, for_references, unknown_function, wrong_kind, bad_pattern_at, no_plan, Tells, FailsBy, IsBehind}

-- the path of a bad pattern
abbrev path_in_fault : BuildFault → Path
path_in_fault (fault.BadPattern path) = path
path_in_fault e = []

path_same : {x z : Path} → fault.BadPattern z ≡ fault.BadPattern x → z ≡ x
path_same e = ap path_in_fault e

-- what fails in a node that is written in a slot fails in the slot
pub slot_fails : (p : Path) (o : Option Node) (n : Node) (a b : BuildFault) → o ≡ Some n → FailsBy a (bad_pattern n) → IsBehind p a b → FailsBy b (bad_at p o)
slot_fails p o n a fault.Memory is h k = tt
slot_fails p o n fault.Memory (fault.BadPattern z) is h k = cc
slot_fails p o n fault.Memory (fault.DuplicateRef name) is h k = cc
slot_fails p o n fault.Memory (fault.UndefinedRef name) is h k = cc
slot_fails p o n fault.Memory (fault.EmptyCycle names) is h k = cc
slot_fails p o n fault.Memory (fault.UnknownFunction name) is h k = cc
slot_fails p o n fault.Memory (fault.WrongFunctionKind name) is h k = cc
slot_fails p o n (fault.DuplicateRef name) b is h k = absurd h
slot_fails p o n (fault.UndefinedRef name) b is h k = absurd h
slot_fails p o n (fault.EmptyCycle names) b is h k = absurd h
slot_fails p o n (fault.UnknownFunction name) b is h k = absurd h
slot_fails p o n (fault.WrongFunctionKind name) b is h k = absurd h
slot_fails p o n (fault.BadPattern x) (fault.DuplicateRef name) is h k = let e : fault.DuplicateRef name ≡ fault.BadPattern (p ++ x) = k in cc
slot_fails p o n (fault.BadPattern x) (fault.UndefinedRef name) is h k = let e : fault.UndefinedRef name ≡ fault.BadPattern (p ++ x) = k in cc
slot_fails p o n (fault.BadPattern x) (fault.EmptyCycle names) is h k = let e : fault.EmptyCycle names ≡ fault.BadPattern (p ++ x) = k in cc
slot_fails p o n (fault.BadPattern x) (fault.UnknownFunction name) is h k = let e : fault.UnknownFunction name ≡ fault.BadPattern (p ++ x) = k in cc
slot_fails p o n (fault.BadPattern x) (fault.WrongFunctionKind name) is h k = let e : fault.WrongFunctionKind name ≡ fault.BadPattern (p ++ x) = k in cc
slot_fails p o n (fault.BadPattern x) (fault.BadPattern z) is h k = ap (bad_at p) is ∙ ap (option_map (λ path. p ++ path)) h ∙ ap Some (sym (path_same k))

-- the first bad pattern, slot by slot
module _ where
  abbrev with_pattern : Option Path → Option Path
  with_pattern o = option_map (λ path. path ++ to_pattern) o

  placed : (p : Path) (o : Option Path) → with_pattern (option_map (λ path. p ++ path) o) ≡ option_map (λ path. p ++ path) (with_pattern o)
  placed p None = refl
  placed p (Some path) = ap Some (append_assoc p path to_pattern)

  either : (a b : Option Path) → with_pattern (option_or a b) ≡ option_or (with_pattern a) (with_pattern b)
  either None b = refl
  either (Some path) b = refl

  at_node : (p : Path) (o : Option Node) → with_pattern (path_at has_bad_pattern p o) ≡ bad_at p o
  unfolding bad_pattern
  at_node p None = refl
  at_node p (Some n) = placed p (first_path has_bad_pattern n)

  in_slots : (ss : List (Slot Node)) → with_pattern (first_in (path_in has_bad_pattern) ss) ≡ first_in bad_in ss
  in_slots [] = refl
  in_slots (slot ∷ ss) =
      either (path_in has_bad_pattern slot) (first_in (path_in has_bad_pattern) ss)
      ∙ ap (λ o. option_or o (with_pattern (first_in (path_in has_bad_pattern) ss))) (at_node slot.path slot.node)
      ∙ ap (option_or (bad_in slot)) (in_slots ss)

  chosen : (b : Bool) (o : Option Path) → with_pattern (if b then Some [] else o) ≡ option_or (bad_itself b) (with_pattern o)
  chosen true o = refl
  chosen false o = refl

  pub bad_opens : (n : Node) → bad_pattern n ≡ option_or (bad_itself (has_bad_pattern n)) (first_in bad_in (slots_of n))
  unfolding bad_pattern
  bad_opens n =
      ap with_pattern (first_opens has_bad_pattern n)
      ∙ chosen (has_bad_pattern n) (first_in (path_in has_bad_pattern) (slots_of n))
      ∙ ap (option_or (bad_itself (has_bad_pattern n))) (in_slots (slots_of n))

-- where the node itself fails
pub itself_fails : (n : Node) (e : BuildFault) → FailsBy e (bad_itself (has_bad_pattern n)) → FailsBy e (bad_pattern n)
itself_fails n fault.Memory h = tt
itself_fails n (fault.DuplicateRef name) h = absurd h
itself_fails n (fault.UndefinedRef name) h = absurd h
itself_fails n (fault.EmptyCycle names) h = absurd h
itself_fails n (fault.UnknownFunction name) h = absurd h
itself_fails n (fault.WrongFunctionKind name) h = absurd h
itself_fails n (fault.BadPattern path) h = bad_opens n ∙ ap (λ o. option_or o (first_in bad_in (slots_of n))) h

-- where a slot fails
pub inner_fails : (n : Node) (e : BuildFault) → bad_itself (has_bad_pattern n) ≡ None → FailsBy e (first_in bad_in (slots_of n)) → FailsBy e (bad_pattern n)
inner_fails n fault.Memory none h = tt
inner_fails n (fault.DuplicateRef name) none h = absurd h
inner_fails n (fault.UndefinedRef name) none h = absurd h
inner_fails n (fault.EmptyCycle names) none h = absurd h
inner_fails n (fault.UnknownFunction name) none h = absurd h
inner_fails n (fault.WrongFunctionKind name) none h = absurd h
inner_fails n (fault.BadPattern path) none h = bad_opens n ∙ ap (λ o. option_or o (first_in bad_in (slots_of n))) none ∙ h

-- where nothing fails
pub none_fails : (n : Node) → bad_itself (has_bad_pattern n) ≡ None → first_in bad_in (slots_of n) ≡ None → bad_pattern n ≡ None
none_fails n none h = bad_opens n ∙ ap (λ o. option_or o (first_in bad_in (slots_of n))) none ∙ h

-- where a slot fails, none before it being bad
pub first_fails : (ss : List (Slot Node)) (i : ℕ) (slot : Slot Node) (e : BuildFault) → slice_get ss i ≡ Some slot → first_in bad_in (drop i ss) ≡ first_in bad_in ss
    → FailsBy e (bad_in slot) → FailsBy e (first_in bad_in ss)
first_fails ss i slot fault.Memory here before h = tt
first_fails ss i slot (fault.DuplicateRef name) here before h = absurd h
first_fails ss i slot (fault.UndefinedRef name) here before h = absurd h
first_fails ss i slot (fault.EmptyCycle names) here before h = absurd h
first_fails ss i slot (fault.UnknownFunction name) here before h = absurd h
first_fails ss i slot (fault.WrongFunctionKind name) here before h = absurd h
first_fails ss i slot (fault.BadPattern path) here before h =
    sym before ∙ ap (first_in bad_in) (drop_here ss i slot here) ∙ ap (λ o. option_or o (first_in bad_in (drop (i + 1) ss))) h

-- where the reason comes first, and where it comes later
pub tells_first : (e : BuildFault) (a b : Option NoPlan) → Tells e a → Tells e (option_or a b)
tells_first fault.Memory a b h = tt
tells_first (fault.DuplicateRef name) a b h = ap (λ o. option_or o b) h
tells_first (fault.UndefinedRef name) a b h = ap (λ o. option_or o b) h
tells_first (fault.EmptyCycle names) a b h = ap (λ o. option_or o b) h
tells_first (fault.UnknownFunction name) a b h = ap (λ o. option_or o b) h
tells_first (fault.WrongFunctionKind name) a b h = ap (λ o. option_or o b) h
tells_first (fault.BadPattern path) a b h = ap (λ o. option_or o b) h

pub tells_later : (e : BuildFault) (a b : Option NoPlan) → a ≡ None → Tells e b → Tells e (option_or a b)
tells_later fault.Memory a b none h = tt
tells_later (fault.DuplicateRef name) a b none h = ap (λ o. option_or o b) none ∙ h
tells_later (fault.UndefinedRef name) a b none h = ap (λ o. option_or o b) none ∙ h
tells_later (fault.EmptyCycle names) a b none h = ap (λ o. option_or o b) none ∙ h
tells_later (fault.UnknownFunction name) a b none h = ap (λ o. option_or o b) none ∙ h
tells_later (fault.WrongFunctionKind name) a b none h = ap (λ o. option_or o b) none ∙ h
tells_later (fault.BadPattern path) a b none h = ap (λ o. option_or o b) none ∙ h

pub tells_pattern : (e : BuildFault) (bad : Option Path) → FailsBy e bad → Tells e (option_map bad_pattern_at bad)
tells_pattern fault.Memory bad h = tt
tells_pattern (fault.DuplicateRef name) bad h = absurd h
tells_pattern (fault.UndefinedRef name) bad h = absurd h
tells_pattern (fault.EmptyCycle names) bad h = absurd h
tells_pattern (fault.UnknownFunction name) bad h = absurd h
tells_pattern (fault.WrongFunctionKind name) bad h = absurd h
tells_pattern (fault.BadPattern path) bad h = ap (option_map bad_pattern_at) h

-- what is wrong with references, as a reason against a plan
pub carried : (reason : Option BadReferences) (bad : BadReferences) → reason ≡ Some bad → option_map for_references reason ≡ Some (for_references bad)
carried reason bad e = ap (option_map for_references) e

pub none_carried : (reason : Option BadReferences) → reason ≡ None → option_map for_references reason ≡ None
none_carried reason e = ap (option_map for_references) e

-- the reasons against a schema, by its nodes
module _ (fs : Named Meaning) (seen root shared : Node) (ns : List Node) (is : seen ≡ root) (all : ns ≡ preorder root) (same : root ≡ shared) where
  abbrev references : Option NoPlan
  references = option_map for_references (no_references seen)

  abbrev unknowns : Option NoPlan
  unknowns = option_map unknown_function (first_in (unknown_at fs) ns)

  abbrev wrongs : Option NoPlan
  wrongs = option_map wrong_kind (first_in (wrong_at fs) ns)

  abbrev patterns : Option NoPlan
  patterns = option_map bad_pattern_at (bad_pattern root)

  abbrev functions : Option NoPlan
  functions = option_or unknowns (option_or wrongs patterns)

  reasons : option_or references functions ≡ no_plan fs shared
  unfolding no_plan first_unknown first_wrong
  reasons =
      ap (λ r. option_or (option_map for_references (no_references r)) functions) is
      ∙ ap (λ ms. option_or (option_map for_references (no_references root)) (option_or (option_map unknown_function (first_in (unknown_at fs) ms)) (option_or (option_map wrong_kind (first_in (wrong_at fs) ms)) patterns))) all
      ∙ ap (no_plan fs) same

  pub references_told : (e : BuildFault) → Tells e references → Tells e (no_plan fs shared)
  references_told e h = subst (Tells e) reasons (tells_first e references functions h)

  functions_told : (e : BuildFault) → references ≡ None → Tells e functions → Tells e (no_plan fs shared)
  functions_told e r h = subst (Tells e) reasons (tells_later e references functions r h)

  pub unknown_told : (e : BuildFault) → references ≡ None → Tells e unknowns → Tells e (no_plan fs shared)
  unknown_told e r h = functions_told e r (tells_first e unknowns (option_or wrongs patterns) h)

  pub wrong_told : (e : BuildFault) → references ≡ None → unknowns ≡ None → Tells e wrongs → Tells e (no_plan fs shared)
  wrong_told e r a h = functions_told e r (tells_later e unknowns (option_or wrongs patterns) a (tells_first e wrongs patterns h))

  pub pattern_told : (e : BuildFault) → references ≡ None → unknowns ≡ None → wrongs ≡ None → FailsBy e (bad_pattern root) → Tells e (no_plan fs shared)
  pattern_told e r a b h =
      functions_told e r (tells_later e unknowns (option_or wrongs patterns) a (tells_later e wrongs patterns b (tells_pattern e (bad_pattern root) h)))

  pub nothing_told : references ≡ None → unknowns ≡ None → wrongs ≡ None → bad_pattern root ≡ None → no_plan fs shared ≡ None
  nothing_told r a b h =
      sym reasons ∙ ap (λ o. option_or o functions) r ∙ ap (λ o. option_or o (option_or wrongs patterns)) a ∙ ap (λ o. option_or o patterns) b ∙ ap (option_map bad_pattern_at) h
