-- The outcome of a collection, from those of all its parts.
-- All errors of all parts come, in the order of the parts. Only where there is none does the number
-- of items matter, after equal items and equal keys are merged.
use Rattle.std.specs.Prelude.{ℕ, zero, suc, ◌+◌, ◌-◌, Bool, true, false, not, ◌&&◌, nat_lt, if◌then◌else◌, List, [], ◌∷◌, ◌++◌, length, codes, Option, None, Some}
use Rattle.std.specs.List.{flat_map}
use Rattle.pv_tree.specs.declared.Step.TheVariants.{Name, Index}
use Rattle.pv_tree.specs.declared.Tree.{Tree}
use Rattle.pv_tree.specs.declared.Tree.TheVariants as tree
use Rattle.pv_tree.specs.declared.Value.{Value}
use Rattle.pv_tree.specs.declared.Value.TheVariants as value
use Rattle.pv_rules.specs.declared.Collection.{Collection}
use Rattle.pv_rules.specs.declared.Collection.TheVariants as collection
use Rattle.pv_rules.specs.declared.GatherRule.{GatherRule}
use Rattle.pv_fault.specs.declared.Grade.{Grade}
use Rattle.pv_fault.specs.declared.Grade.TheVariants as grade
use Rattle.pv_fault.specs.declared.Kind.{Kind}
use Rattle.pv_fault.specs.declared.Kind.TheVariants as kind
use Rattle.pv_fault.specs.declared.LineError.{LineError}
use Rattle.pv_fault.specs.declared.Outcome.{Outcome}
use Rattle.pv_fault.specs.declared.Outcome.TheVariants.{Good, Bad}
use Rattle.pv_fault.specs.Grades.{least_of}
use Rattle.pv_fault.specs.Counts.{sum_of}
use Rattle.pv_fault.specs.Under.{all_under}
use Rattle.pv_fault.specs.Single.{error_here, one_error}
use Rattle.pv_equality.specs.Hashable.{hashable}
use Rattle.pv_equality.specs.Merging.{first_of_each, merged_entries}

-- what an array has to be for: the error of a tree that is none, or no object for a dict
abbrev pub type_error : Collection → Kind
type_error collection.List = kind.ListType
type_error collection.Tuple = kind.TupleType
type_error collection.Set = kind.SetType
type_error collection.Frozen = kind.FrozenSetType
type_error collection.Dict = kind.DictType

-- the name of a collection in a message
abbrev pub field_type : Collection → List ℕ
field_type collection.List = codes "List"
field_type collection.Tuple = codes "Tuple"
field_type collection.Set = codes "Set"
field_type collection.Frozen = codes "Frozenset"
field_type collection.Dict = codes "Dictionary"

-- the grade of a collection without parts
abbrev pub own_grade : Collection → Grade
own_grade collection.List = grade.Exact
own_grade collection.Tuple = grade.Strict
own_grade collection.Set = grade.Strict
own_grade collection.Frozen = grade.Strict
own_grade collection.Dict = grade.Exact

-- What an item is, and what validation gave for it.
pub record Part : Type 0 where
  pub input : Tree
  pub outcome : Outcome

-- A member of an object by its name, and what validation gave for its key and for its value.
pub record Pair : Type 0 where
  pub name : List ℕ
  pub key : Outcome
  pub value : Outcome

-- the errors of an outcome
abbrev pub errors_of : Outcome → List LineError
errors_of (Good v g n) = []
errors_of (Bad es) = es

-- the values of the outcomes that succeeded
abbrev pub values_of : List Outcome → List Value
values_of [] = []
values_of (Good v g n ∷ os) = v ∷ values_of os
values_of (Bad es ∷ os) = values_of os

-- the grades of the outcomes that succeeded
abbrev pub grades_of : List Outcome → List Grade
grades_of [] = []
grades_of (Good v g n ∷ os) = g ∷ grades_of os
grades_of (Bad es ∷ os) = grades_of os

-- the counts of the outcomes that succeeded
abbrev pub counts_of : List Outcome → List (Option ℕ)
counts_of [] = []
counts_of (Good v g n ∷ os) = n ∷ counts_of os
counts_of (Bad es ∷ os) = counts_of os

-- the items of a set have to be hashable
abbrev pub needs_hash : Collection → Bool
needs_hash collection.List = false
needs_hash collection.Tuple = false
needs_hash collection.Set = true
needs_hash collection.Frozen = true
needs_hash collection.Dict = false

-- the errors of an item, seen from the item
abbrev pub item_errors : Collection → Tree → Outcome → List LineError
item_errors k t (Good v g n) =
    if needs_hash k && not (hashable v) then error_here kind.SetItemNotHashable t ∷ [] else []
item_errors k t (Bad es) = es

-- the errors of the items from place i on, each under its place
abbrev pub items_errors : Collection → ℕ → List Part → List LineError
items_errors k i [] = []
items_errors k i (p ∷ ps) =
    all_under (Index i) (item_errors k p.input p.outcome) ++ items_errors k (i + 1) ps

-- the errors of a key, seen from the key
abbrev pub key_errors : List ℕ → Outcome → List LineError
key_errors name (Good v g n) =
    if hashable v then [] else error_here kind.DictKeyNotHashable (tree.Str name) ∷ []
key_errors name (Bad es) = es

-- the errors of a member; those of the key stand before those of the value
abbrev pub pair_errors : Pair → List LineError
pair_errors p =
    all_under (Name p.name)
    (all_under (Name (codes "[key]")) (key_errors p.name p.key) ++ errors_of p.value)

-- How many positions a tuple has for so many items; none where one position takes all items that
-- the others leave. Where there are too few items for the other positions, the tuple is read as one of
-- these alone.
abbrev pub fixed : Option ℕ → ℕ → ℕ → Option ℕ
fixed None positions items = Some positions
fixed (Some v) positions items = if nat_lt items (positions - 1) then Some (positions - 1) else None

-- the errors of so many missing positions, from position i on
abbrev pub missing_from : ℕ → ℕ → Tree → List LineError
missing_from i zero t = []
missing_from i (suc n) t =
    record { kind = kind.Missing; loc = Index i ∷ []; input = t } ∷ missing_from (i + 1) n t

-- the positions that no item has
abbrev pub missing_of : Option ℕ → ℕ → Tree → List LineError
missing_of None items t = []
missing_of (Some n) items t = missing_from items (n - items) t

-- the positions that a collection wants: a tuple's; the others want none
abbrev pub wanted_by : Collection → Option ℕ → Option ℕ
wanted_by collection.List n = None
wanted_by collection.Tuple n = n
wanted_by collection.Set n = None
wanted_by collection.Frozen n = None
wanted_by collection.Dict n = None

-- the positions that a rule wants for so many items
abbrev pub wanted : GatherRule → ℕ → Option ℕ
wanted r items = wanted_by r.kind (fixed r.variadic_item_index r.positions items)

-- the error of too few items
abbrev pub too_short : Collection → ℕ → ℕ → Kind
too_short k least actual = kind.TooShort (field_type k) least actual

-- the error of too many items
abbrev pub too_long : Collection → ℕ → ℕ → Kind
too_long k most actual = kind.TooLong (field_type k) most actual

-- the error of more items than the most, where there is a most
abbrev pub over : Collection → Option ℕ → ℕ → Option Kind
over k None actual = None
over k (Some most) actual = if nat_lt most actual then Some (too_long k most actual) else None

-- the error of fewer items than the least, where there is a least
abbrev pub short : Collection → Option ℕ → ℕ → Option Kind
short k None actual = None
short k (Some least) actual = if nat_lt actual least then Some (too_short k least actual) else None

-- the first of two that there is
abbrev pub first_of : Option Kind → Option Kind → Option Kind
first_of None other = other
first_of (Some k) other = Some k

-- the first test of lengths that fails: the positions against the items of the input, then the
-- least and the most against what the collection keeps
abbrev pub length_fault : GatherRule → ℕ → ℕ → Option Kind
length_fault r items kept =
    first_of (over r.kind (wanted r items) items)
    (first_of (short r.kind r.min_length kept) (over r.kind r.max_length kept))

-- a value of this many items, or what its length makes wrong
abbrev pub measured : Option Kind → Tree → Outcome → Outcome
measured None t whole = whole
measured (Some k) t whole = one_error k t

-- the errors, or this outcome where there are none
abbrev pub unless_errors : List LineError → Outcome → Outcome
unless_errors [] whole = whole
unless_errors (e ∷ es) whole = Bad (e ∷ es)

-- the values that stay, where no two may be the same or any two may
abbrev pub kept_by : Bool → List Value → List Value
kept_by true vs = first_of_each vs
kept_by false vs = vs

-- what a collection of items keeps of their values
abbrev pub kept : Collection → List Value → List Value
kept k vs = kept_by (needs_hash k) vs

-- the value of a collection of items
abbrev pub made_of : Collection → List Value → Value
made_of collection.List vs = value.List vs
made_of collection.Tuple vs = value.Tuple vs
made_of collection.Set vs = value.Set vs
made_of collection.Frozen vs = value.Frozen vs
made_of collection.Dict vs = value.List vs

-- the outcomes of items
abbrev pub outcomes_in : List Part → List Outcome
outcomes_in [] = []
outcomes_in (p ∷ ps) = p.outcome ∷ outcomes_in ps

-- An array of so many items, of which those that were validated are the parts.
unfoldable pub gather_items : GatherRule → ℕ → Tree → List Part → Outcome
gather_items r items t ps =
    let os = outcomes_in ps in
    let vs = kept r.kind (values_of os) in
    unless_errors (items_errors r.kind 0 ps ++ missing_of (wanted r items) items t)
    (measured (length_fault r items (length vs)) t
    (Good (made_of r.kind vs) (least_of (own_grade r.kind) (grades_of os)) (sum_of (counts_of os))))

-- the outcomes of members: of each its key, then its value
abbrev pub both_in : List Pair → List Outcome
both_in [] = []
both_in (p ∷ ps) = p.key ∷ p.value ∷ both_in ps

-- the entry of a member, where its key and its value succeeded
abbrev pub entry_of : Outcome → Outcome → List (Value × Value)
entry_of (Good k g m) (Good v h n) = (k, v) ∷ []
entry_of (Good k g m) (Bad es) = []
entry_of (Bad es) o = []

-- the entries of the members that succeeded
abbrev pub entries_of : List Pair → List (Value × Value)
entries_of [] = []
entries_of (p ∷ ps) = entry_of p.key p.value ++ entries_of ps

-- An object, of which each member is a pair.
unfoldable pub gather_pairs : GatherRule → Tree → List Pair → Outcome
gather_pairs r t ps =
    let os = both_in ps in
    let es = merged_entries (entries_of ps) in
    unless_errors (flat_map pair_errors ps)
    (measured (length_fault r (length es) (length es)) t
    (Good (value.Dict es) (least_of (own_grade r.kind) (grades_of os)) (sum_of (counts_of os))))
