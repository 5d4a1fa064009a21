-- What stands in a tree at the end of a path.
use Rattle.std.specs.Prelude.{ℕ, ◌+◌, List, [], ◌∷◌, slice_get, Option, None, Some}
use Rattle.std.specs.Option.{option_and_then}
use Rattle.pv_tree.specs.declared.Step.{Step}
use Rattle.pv_tree.specs.declared.Step.TheVariants.{Name, Index}
use Rattle.pv_tree.specs.declared.Tree.{Tree, out-Tree}
use Rattle.pv_tree.specs.Merged.{value_at}
use Rattle.pv_tree.specs.Parts.{items_at, members_at}
use Rattle.pv_paths.specs.declared.found.Found.{Found}
use Rattle.pv_paths.specs.declared.found.Found.TheVariants.{At, Missing}

-- where a step leads: from an object to the member of the name, from an array to the item of the
-- place, where there is one
abbrev pub part_at : Step → Tree → Option Tree
part_at (Name name) t = option_and_then (λ ms. value_at ms name) (members_at (out-Tree t))
part_at (Index place) t = option_and_then (λ ts. slice_get ts place) (items_at (out-Tree t))

-- the tree at the end of the steps, where all of them lead on
abbrev pub follow : List Step → Tree → Option Tree
follow [] t = Some t
follow (s ∷ ss) t = option_and_then (follow ss) (part_at s t)

-- the tree at the end of the path of this number, else what the later paths find
abbrev pub found_by : ℕ → Option Tree → Option (ℕ × Tree) → Option (ℕ × Tree)
found_by i None later = later
found_by i (Some t) later = Some (i, t)

-- among the paths from number `i` on
abbrev pub found_from : ℕ → List (List Step) → Tree → Option (ℕ × Tree)
found_from i [] t = None
found_from i (p ∷ ps) t = found_by i (follow p t) (found_from (i + 1) ps t)

-- the number of the first path whose steps all lead on, and the tree at its end
unfoldable pub found : List (List Step) → Tree → Option (ℕ × Tree)
found ps t = found_from 0 ps t

-- what was found, as the number of the path and the tree at its end
abbrev pub hit : Found → Option (ℕ × Tree)
hit (At path t) = Some (path, t.now)
hit Missing = None
