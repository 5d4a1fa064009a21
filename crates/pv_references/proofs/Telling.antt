-- What is wrong with references, one reason before the other.
use Rattle.std.proofs.Common.{◌≡◌, ℕ, List, length, Option, None, ap, ◌∙◌}
use Rattle.std.specs.Option.{option_map, option_or}
use Rattle.pv_node.specs.declared.Node.{Node}
use Rattle.pv_node.specs.Preorder.{preorder}
use Rattle.pv_references.specs.declared.faults.NoReferences.{NoReferences}
use Rattle.pv_references.specs.declared.faults.NoReferences.TheVariants as fault
use Rattle.pv_references.specs.Names.{first_duplicate, first_undefined, names_in, names_of}
use Rattle.pv_references.specs.Cycles.{cycle_names}
use Rattle.pv_references.specs.Faults.{BadReferences, duplicate_ref, undefined_ref, cycle_of, no_references, Tells}

-- where the reason comes first, and where it comes later
tells_first : (e : NoReferences) (a b : Option BadReferences) → Tells e a → Tells e (option_or a b)
tells_first fault.Memory a b h = tt
tells_first (fault.DuplicateRef name) a b h = ap (λ o. option_or o b) h
tells_first (fault.UndefinedRef name) a b h = ap (λ o. option_or o b) h
tells_first (fault.EmptyCycle names) a b h = ap (λ o. option_or o b) h

tells_later : (e : NoReferences) (a b : Option BadReferences) → a ≡ None → Tells e b → Tells e (option_or a b)
tells_later fault.Memory a b none h = tt
tells_later (fault.DuplicateRef name) a b none h = ap (λ o. option_or o b) none ∙ h
tells_later (fault.UndefinedRef name) a b none h = ap (λ o. option_or o b) none ∙ h
tells_later (fault.EmptyCycle names) a b none h = ap (λ o. option_or o b) none ∙ h

module _ (root : Node) where
  abbrev duplicates : Option BadReferences
  duplicates = option_map duplicate_ref (first_duplicate root)

  abbrev undefineds : Option BadReferences
  undefineds = option_map undefined_ref (first_undefined root)

  abbrev cycles : Option BadReferences
  cycles = cycle_of (cycle_names root)

  pub duplicate_told : (e : NoReferences) → Tells e duplicates → Tells e (no_references root)
  unfolding no_references
  duplicate_told e h = tells_first e duplicates (option_or undefineds cycles) h

  pub undefined_told : (e : NoReferences) → duplicates ≡ None → Tells e undefineds → Tells e (no_references root)
  unfolding no_references
  undefined_told e a h = tells_later e duplicates (option_or undefineds cycles) a (tells_first e undefineds cycles h)

  pub cycle_told : (e : NoReferences) → duplicates ≡ None → undefineds ≡ None → Tells e cycles → Tells e (no_references root)
  unfolding no_references
  cycle_told e a b h = tells_later e duplicates (option_or undefineds cycles) a (tells_later e undefineds cycles b h)

  pub nothing_told : duplicates ≡ None → undefineds ≡ None → cycles ≡ None → no_references root ≡ None
  unfolding no_references
  nothing_told a b c = ap (λ o. option_or o (option_or undefineds cycles)) a ∙ ap (λ o. option_or o cycles) b ∙ c

  pub names_counted : (ns : List Node) (count : ℕ) → ns ≡ preorder root → count ≡ length (names_in ns) → count ≡ length (names_of root)
  unfolding names_of
  names_counted ns count all e = e ∙ ap (λ ms. length (names_in ms)) all
