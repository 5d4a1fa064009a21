-- Which values an index has seen, and at which places.
use Rattle.std.specs.Prelude.{◌≡◌, ℕ, List, length, Option, None, Some}
use Rattle.std.specs.List.{position_from}
use Rattle.std.specs.Ordering.{is_eq}
use Rattle.std.specs.BTreeMap.{get, btree_map_len}
use Rattle.pv_tree.specs.declared.Value.{Value}
use Rattle.pv_equality.specs.Equality.{same}
use Rattle.pv_distinct.specs.Keys.{KeyTokens, key, key_cmp}
use Rattle.pv_distinct.specs.declared.seen.Seen.{Seen}
use Rattle.pv_distinct.specs.declared.seen.Place.{Place}
use Rattle.pv_distinct.specs.declared.seen.Place.TheVariants as place

-- a place, or that there is none
abbrev pub place_at : Option ℕ → Place
place_at None = place.New
place_at (Some i) = place.Old i

-- where the value stands among those that were kept, or that none of these is the same
abbrev pub place_of : List Value → Value → Place
place_of kept v = place_at (position_from (λ k. same k v) 0 kept)

-- the index has the values `kept`, in this order: each key leads to the first of them whose key
-- is equal
pub record IsSeen (s : Seen) (kept : List Value) : Type 0 where
  pub found : (k : KeyTokens)
      → get key_cmp s.places k ≡ position_from (λ v. is_eq (key_cmp k (key v))) 0 kept
  pub counted : btree_map_len s.places ≡ length kept
