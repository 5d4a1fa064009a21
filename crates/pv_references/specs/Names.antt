-- The names of nodes: which stand twice, and which a reference uses that no node has.
use Rattle.std.specs.Prelude.{ℕ, Bool, false, ◌||◌, if◌then◌else◌, List, [], ◌∷◌, ◌++◌, Option, None, Some}
use Rattle.std.specs.Option.{option_or}
use Rattle.pv_node.specs.declared.Node.{Node, out-Node}
use Rattle.pv_node.specs.Places.{body_of}
use Rattle.pv_node.specs.Preorder.{preorder, first_in}
use Rattle.pv_node.specs.References.{has_name}
use Rattle.pv_references.specs.Targets.{reference_of}

-- a name, where there is one, and then more
abbrev pub with_name : Option (List ℕ) → List (List ℕ) → List (List ℕ)
with_name None names = names
with_name (Some name) names = name ∷ names

-- the names of those nodes that have one, in their order
abbrev pub names_in : List Node → List (List ℕ)
names_in [] = []
names_in (n ∷ ns) = with_name (out-Node n).own_ref (names_in ns)

-- the names of a schema
unfoldable pub names_of : Node → List (List ℕ)
names_of root = names_in (preorder root)

-- whether one of some nodes has a name
abbrev pub is_named : List ℕ → List Node → Bool
is_named name [] = false
is_named name (n ∷ ns) = has_name name n || is_named name ns

-- a name that there may be, where one of these nodes has it
abbrev pub repeated_by : List Node → Option (List ℕ) → Option (List ℕ)
repeated_by before None = None
repeated_by before (Some name) = if is_named name before then Some name else None

-- the name of the first of some nodes whose name another one before it has; these stand before all
-- of them
abbrev pub repeated_from : List Node → List Node → Option (List ℕ)
repeated_from before [] = None
repeated_from before (n ∷ ns) =
    option_or (repeated_by before (out-Node n).own_ref) (repeated_from (before ++ n ∷ []) ns)

-- the name of the first node of a schema whose name a node before it has
unfoldable pub first_duplicate : Node → Option (List ℕ)
first_duplicate root = repeated_from [] (preorder root)

-- a name that there may be, where no node of a schema has it
abbrev pub undefined_by : Node → Option (List ℕ) → Option (List ℕ)
undefined_by root None = None
undefined_by root (Some name) = if is_named name (preorder root) then None else Some name

-- the name that a node refers to, where no node of the schema has it
abbrev pub undefined_at : Node → Node → Option (List ℕ)
undefined_at root n = undefined_by root (reference_of (body_of n))

-- the first name in a schema that a node refers to and no node has
unfoldable pub first_undefined : Node → Option (List ℕ)
first_undefined root = first_in (undefined_at root) (preorder root)
