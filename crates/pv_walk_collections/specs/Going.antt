-- The parts of a collection, each as the walk of the whole sees it, and how far that walk has come.
use Rattle.std.specs.Prelude.{◌≡◌, ℕ, Bool, true, not, ◌&&◌, if◌then◌else◌, List, [], drop, Option, None, Some, flat_map}
use Rattle.pv_tree.specs.declared.Tree.{Tree}
use Rattle.pv_tree.specs.declared.Tree.TheVariants as tree
use Rattle.pv_tree.specs.declared.Value.{Value}
use Rattle.pv_rules.specs.declared.Collection.{Collection}
use Rattle.pv_fault.specs.declared.Good.{Good}
use Rattle.pv_fault.specs.declared.Kind.{Kind}
use Rattle.pv_fault.specs.declared.Kind.TheVariants as kind
use Rattle.pv_fault.specs.declared.Outcome.{Outcome}
use Rattle.pv_fault.specs.declared.Outcome.TheVariants as outcome
use Rattle.pv_fault.specs.Single.{one_error}
use Rattle.pv_equality.specs.Hashable.{hashable}
use Rattle.pv_collect.specs.Gathering.{Part, Pair, own_grade, needs_hash, outcomes_in, items_errors, pair_errors}
use Rattle.pv_collect.specs.Kept.{Kept, good_of, kept_of_items, kept_of_pairs}
use Rattle.pv_walk.specs.declared.Out.{Out}
use Rattle.pv_walk.specs.Walks.{Adds}

-- where it has to be hashable and is not, this error in its place
abbrev pub hashed : Bool → Kind → Tree → Outcome → Outcome
hashed needed k t (outcome.Good v g n) =
    if needed && not (hashable v) then one_error k t else outcome.Good v g n
hashed needed k t (outcome.Bad es) = outcome.Bad es

-- whether a value that was found is hashable
abbrev pub is_hashable : Option Good → Bool
is_hashable None = true
is_hashable (Some g) = hashable g.value

-- an item of a collection
abbrev pub item_in : Collection → Tree → Outcome → Outcome
item_in k = hashed (needs_hash k) kind.SetItemNotHashable

-- the key of a member, which is an error of the name
abbrev pub key_in : List ℕ → Outcome → Outcome
key_in name = hashed true kind.DictKeyNotHashable (tree.Str name)

-- the children from a position on; none without a position
abbrev pub from_position : Option ℕ → List ℕ → List ℕ
from_position None cs = []
from_position (Some p) cs = drop p cs

-- These items were walked: their errors were added, and where there is none they are kept.
pub record Going (old new : Out) (k : Collection) (kept : Kept Value) (ps : List Part)
    : Type 0 where
  pub adds : Adds old new (items_errors k 0 ps)
  pub whole : items_errors k 0 ps ≡ [] → kept ≡ kept_of_items (own_grade k) (outcomes_in ps)

-- the same of members
pub record GoingPairs (old new : Out) (k : Collection) (kept : Kept (Value × Value))
    (ps : List Pair) : Type 0 where
  pub adds : Adds old new (flat_map pair_errors ps)
  pub whole : flat_map pair_errors ps ≡ [] → kept ≡ kept_of_pairs (own_grade k) ps

-- One member was walked, and these are the successes of its key and its value.
pub record WalkedPair (old new : Out) (k v : Option Good) (p : Pair) : Type 0 where
  pub adds : Adds old new (pair_errors p)
  pub key : k ≡ good_of (key_in p.name p.key)
  pub value : v ≡ good_of p.value
