-- What the nodes with child schemas give for a tree, by what their children give.
use Rattle.std.specs.Prelude.{ℕ, zero, suc, ◌+◌, ◌-◌, List, [], ◌∷◌, ◌++◌, map, length, slice_get, Option, None, Some, Bool, true, false}
use Rattle.pv_tree.specs.declared.Tree.{Tree, out-Tree}
use Rattle.pv_tree.specs.declared.Tree.TheVariants as tree
use Rattle.pv_tree.specs.Parts.{items_at, members_at, null_at}
use Rattle.pv_tree.specs.declared.Value.TheVariants as value
use Rattle.pv_fault.specs.declared.Grade.TheVariants as grade
use Rattle.pv_fault.specs.declared.Kind.TheVariants as kind
use Rattle.pv_fault.specs.declared.Outcome.{Outcome}
use Rattle.pv_fault.specs.declared.Outcome.TheVariants.{Good}
use Rattle.pv_fault.specs.Single.{one_error}
use Rattle.pv_rules.specs.declared.Collection.{Collection}
use Rattle.pv_rules.specs.declared.Collection.TheVariants as kinds
use Rattle.pv_rules.specs.declared.GatherRule.{GatherRule}
use Rattle.pv_collect.specs.Gathering.{Part, Pair, type_error, gather_items, gather_pairs}

-- what a child gives for each tree
abbrev pub Child : Type 0
Child = Tree → Outcome

-- an item, and what the child gives for it
abbrev pub part : Child → Tree → Part
part child t = record { input = t; outcome = child t }

-- a tree that is no array, or for a dict no object
abbrev pub wrong_type : GatherRule → Tree → Outcome
wrong_type r t = one_error (type_error r.kind) t

-- a list, a set or a frozenset: every item by the one child
abbrev pub sequence_in : GatherRule → Child → Tree → Option (List Tree) → Outcome
sequence_in r item t None = wrong_type r t
sequence_in r item t (Some ts) = gather_items r (length ts) t (map (part item) ts)

-- of a tree
unfoldable pub sequence : GatherRule → Child → Tree → Outcome
sequence r item t = sequence_in r item t (items_at (out-Tree t))

-- so many positions one after another, the first at this one
abbrev pub run_of : ℕ → ℕ → List ℕ
run_of at zero = []
run_of at (suc n) = at ∷ run_of (at + 1) n

-- one position so many times
abbrev pub times : ℕ → ℕ → List ℕ
times v zero = []
times v (suc n) = v ∷ times v n

-- The positions that take so many items, in the order of the items: all positions one after
-- another. A variadic position v takes the items that the others leave: those before it take the
-- first items, those behind it the last ones. Where there are too few items for the others, v
-- takes none.
abbrev pub takers_of : Option ℕ → ℕ → ℕ → List ℕ
takers_of None positions items = run_of 0 positions
takers_of (Some v) positions items =
    run_of 0 v ++ (times v (items - (positions - 1)) ++ run_of (v + 1) (positions - 1 - v))

-- the same by a rule
abbrev pub takers : GatherRule → ℕ → List ℕ
takers r items = takers_of r.variadic_item_index r.positions items

-- an item by the child of its position, before the parts behind it; past the positions there is
-- none
abbrev pub placed_by : Option Child → Tree → List Part → List Part
placed_by None t ps = []
placed_by (Some child) t ps = part child t ∷ ps

-- the items, each by the child of the position that takes it; those past the positions are left
-- out
abbrev pub placed : List Child → List ℕ → List Tree → List Part
placed children [] ts = []
placed children (p ∷ ps) [] = []
placed children (p ∷ ps) (t ∷ ts) = placed_by (slice_get children p) t (placed children ps ts)

-- a tuple: every item by the child of its position
abbrev pub tuple_in : GatherRule → List Child → Tree → Option (List Tree) → Outcome
tuple_in r children t None = wrong_type r t
tuple_in r children t (Some ts) =
    gather_items r (length ts) t (placed children (takers r (length ts)) ts)

-- of a tree
unfoldable pub tuple : GatherRule → List Child → Tree → Outcome
tuple r children t = tuple_in r children t (items_at (out-Tree t))

-- a member: its key as a text, and its value
abbrev pub pair : Child → Child → List ℕ × Tree → Pair
pair key value m = record { name = m.0; key = key (tree.Str m.0); value = value m.1 }

-- a dict: every member by the child of the keys and by that of the values
abbrev pub dict_in : GatherRule → Child → Child → Tree → Option (List (List ℕ × Tree))
    → Outcome
dict_in r key value t None = wrong_type r t
dict_in r key value t (Some ms) = gather_pairs r t (map (pair key value) ms)

-- of a tree
unfoldable pub dict : GatherRule → Child → Child → Tree → Outcome
dict r key value t = dict_in r key value t (members_at (out-Tree t))

-- a child that is not there; no node of a schema wants one
abbrev pub no_child : Child
no_child t = one_error kind.RecursionLoop t

-- the first of the children
abbrev pub first : List Child → Child
first [] = no_child
first (c ∷ cs) = c

-- the second of the children
abbrev pub second : List Child → Child
second [] = no_child
second (c ∷ cs) = first cs

-- a collection of each kind, by its children: that of all items, those of the positions, or those
-- of the keys and of the values
abbrev pub collection_of : Collection → GatherRule → List Child → Tree → Outcome
collection_of kinds.List r children t = sequence r (first children) t
collection_of kinds.Set r children t = sequence r (first children) t
collection_of kinds.Frozen r children t = sequence r (first children) t
collection_of kinds.Tuple r children t = tuple r children t
collection_of kinds.Dict r children t = dict r (first children) (second children) t

-- by the rule and the children
unfoldable pub collection : GatherRule → List Child → Tree → Outcome
collection r children t = collection_of r.kind r children t

-- None for null, and for any other tree what the child gives
abbrev pub nullable_in : Child → Tree → Bool → Outcome
nullable_in inner t true = Good value.None grade.Exact None
nullable_in inner t false = inner t

-- of a tree
unfoldable pub nullable : Child → Tree → Outcome
nullable inner t = nullable_in inner t (null_at (out-Tree t))
