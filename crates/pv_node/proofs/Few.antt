-- A node has not many more slots than nodes that stand in them.
use Rattle.std.proofs.Common.{◌≡◌, ℕ, ◌+◌, ◌≤◌, ◌<◌, List, [], ◌∷◌, ◌++◌, length, Option, Some, None, slice_get, ap, arith}
use Rattle.std.specs.Prelude.{codes}
use Rattle.std.proofs.lemmas.List.{append-nil}
use Rattle.std.proofs.lemmas.Option.{slice_get_within}
use Rattle.pv_node.specs.declared.child_slot.Edge.{Edge}
use Rattle.pv_node.specs.declared.child_slot.Edge.TheVariants.{Enters, Stays, Absent}
use Rattle.pv_node.specs.declared.node.Node.{Node}
use Rattle.pv_node.specs.declared.node.Body.{Body}
use Rattle.pv_node.specs.declared.node.Body.TheOpen.{Body-F}
use Rattle.pv_node.specs.Places.{Path, Slot, body_of, slots, slots_of, listed, position_path, field_path, choice_path, tag_path, inner_slot, extras_slots}
use Rattle.pv_node.specs.Preorder.{node_count, slots_count}
use Rattle.pv_node.proofs.Counts.{count_first, count_opens}
use Rattle.pv_node.proofs.Lending.{one}

-- each of a list of nodes has one, and some are behind these
listed_behind : (path : ℕ → Path) (edge : Edge) (start : ℕ) (ys : List Node) (more : List (Slot Node))
    → length (listed path edge start ys ++ more) ≤ slots_count (listed path edge start ys ++ more) + length more
listed_behind path edge start [] more = omega arith
listed_behind path edge start (y ∷ ys) more =
    let first = count_first (one (path start) edge y) (listed path edge (start + 1) ys ++ more) in
    let rest = listed_behind path edge (start + 1) ys more in
    let some = count_opens y in
    omega arith

listed_few : (path : ℕ → Path) (edge : Edge) (ys : List Node) → length (listed path edge 0 ys) ≤ slots_count (listed path edge 0 ys)
listed_few path edge ys =
    let few = listed_behind path edge 0 ys [] in
    let same = append-nil (listed path edge 0 ys) in
    let lengths = ap length same in
    let counts = ap slots_count same in
    omega arith

extras_few : (extras : Option Node) → length (extras_slots extras) ≤ 2
extras_few None = omega arith
extras_few (Some n) = omega arith

few_slots : (b : Body-F Body Node) → length (slots b) ≤ slots_count (slots b) + 2
few_slots (Body-F.Tuple rule items) = let few = listed_few (position_path (codes "items_schema")) Enters items in omega arith
few_slots (Body-F.Fields rule fields extras config cls) =
    let few = listed_behind (field_path rule.fields) Enters 0 fields (extras_slots extras) in
    let two = extras_few extras in
    omega arith
few_slots (Body-F.Union rule choices) = let few = listed_few (choice_path rule.labels) Stays choices in omega arith
few_slots (Body-F.TaggedUnion rule choices) = let few = listed_few (tag_path rule.tags) Stays choices in omega arith
few_slots (Body-F.Definitions inner definitions) =
    let path = position_path (codes "definitions") in
    let few = listed_few path Absent definitions in
    let first = count_first (inner_slot inner) (listed path Absent 0 definitions) in
    omega arith
few_slots b = omega arith

-- a slot of a node that has so few nodes has a place that fits, and one more
pub few : (n : Node) (i : ℕ) (slot : Slot Node) → slice_get (slots_of n) i ≡ Some slot → i < node_count n + 1
few n i slot here =
    let within = slice_get_within (slots_of n) i slot here in
    let bound = few_slots (body_of n) in
    let whole = count_opens n in
    omega arith
