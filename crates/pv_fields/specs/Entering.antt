-- The parts of a tree in which paths go on.
use Rattle.std.specs.Prelude.{◌≡◌, ℕ, List, slice_get, Option, None, Some}
use Rattle.std.specs.Option.{option_and_then, option_map}
use Rattle.pv_tree.specs.declared.Tree.{Tree, out-Tree}
use Rattle.pv_tree.specs.declared.tree.Tree.TheOpen.{Tree-F}
use Rattle.pv_fields.specs.declared.directories.Inner.{Inner}

-- the value of the member at this place, or the item
abbrev pub part_at_place : Tree-F Tree → ℕ → Option Tree
part_at_place (Tree-F.Object d) place = option_map (λ m. m.1) (slice_get d.members place)
part_at_place (Tree-F.Array ts) place = slice_get ts place
part_at_place x place = None

-- the same of a tree; one that is neither object nor array has no parts
abbrev pub part_in : Tree → ℕ → Option Tree
part_in t place = part_at_place (out-Tree t) place

-- the part of this number, and without a number the whole
abbrev pub numbered : Tree × List Inner → Option ℕ → Option Tree
numbered d None = Some d.0
numbered d (Some number) = option_map (λ e. e.directory) (slice_get d.1 number)

-- what stands at this place in the part of this number
abbrev pub part_of : Tree × List Inner → Option ℕ → ℕ → Option Tree
part_of d from place = option_and_then (λ t. part_in t place) (numbered d from)

-- each part stands where it says
abbrev pub ArePlaced : Tree × List Inner → Type 0
ArePlaced d =
    (number : ℕ) (e : Inner) → slice_get d.1 number ≡ Some e
    → part_of d e.from e.place ≡ Some e.directory
