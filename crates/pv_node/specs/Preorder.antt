-- What is read off the places of a schema: its nodes in order, their number, and the first that
-- passes a test.
use Rattle.std.specs.Prelude.{ℕ, Bool, List, [], ◌∷◌, ◌++◌, map, length, Option, Some, None, if◌then◌else◌}
use Rattle.std.specs.List.{find, flat_map, sum_by}
use Rattle.std.specs.Option.{option_map, option_or}
use Rattle.pv_node.specs.declared.node.Node.{Node}
use Rattle.pv_node.specs.Places.{Path, Slot, places, slots_of}

-- the nodes of a schema
unfoldable pub preorder : Node → List Node
preorder root = map (λ place. place.node) (places root)

-- how many nodes a schema has
unfoldable pub node_count : Node → ℕ
node_count root = length (places root)

-- the path of the first node of a schema that passes a test
unfoldable pub first_path : (Node → Bool) → Node → Option Path
first_path test root =
    option_map (λ place. place.path) (find (λ place. test place.node) (places root))

-- what is there, as a list
abbrev pub optional : {X : Type 0} → Option X → List X
optional None = []
optional (Some x) = x ∷ []

-- the nodes that are written in slots
abbrev pub written : {Y : Type 0} → List (Slot Y) → List Y
written ss = flat_map (λ slot. optional slot.node) ss

-- the child schemas of a node
abbrev pub parts : Node → List Node
parts n = written (slots_of n)

-- how many nodes stand where one may be written
abbrev pub count_at : Option Node → ℕ
count_at None = 0
count_at (Some n) = node_count n

-- how many stand in slots
abbrev pub slots_count : List (Slot Node) → ℕ
slots_count ss = sum_by (λ slot. count_at slot.node) ss

-- the first answer that there is
abbrev pub first_in : {X Y : Type 0} → (X → Option Y) → List X → Option Y
first_in f [] = None
first_in f (x ∷ xs) = option_or (f x) (first_in f xs)

-- the path to the first that passes a test, where a node may be written
abbrev pub path_at : (Node → Bool) → Path → Option Node → Option Path
path_at test p None = None
path_at test p (Some n) = option_map (λ q. p ++ q) (first_path test n)

-- the same of a slot
abbrev pub path_in : (Node → Bool) → Slot Node → Option Path
path_in test slot = path_at test slot.path slot.node

-- the same of a node: it comes before its slots
abbrev pub path_of : (Node → Bool) → Node → Option Path
path_of test n = if test n then Some [] else first_in (path_in test) (slots_of n)
