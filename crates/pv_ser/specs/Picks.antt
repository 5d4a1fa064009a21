-- How trees are read as picks: `true` is all, an object is its members' picks, and a list is the
-- object that has each of its names with `true`.
use Rattle.std.specs.Prelude.{ℕ, ◌+◌, Bool, true, false, if◌then◌else◌, nat_le, ℤ, pos, negsuc, decimal}
use Rattle.std.specs.Prelude.{List, [], ◌∷◌, map, Option, Some, None, Result, Ok, Err}
use Rattle.std.specs.BTreeMap.{insert_entry}
use Rattle.pv_number.specs.WrittenIntegers.{integer}
use Rattle.pv_tree.specs.Merging.{name_cmp}
use Rattle.pv_tree.specs.declared.Step.{Step}
use Rattle.pv_tree.specs.declared.Step.TheVariants.{Name, Index}
use Rattle.pv_tree.specs.declared.Tree.{Tree, fold-Tree}
use Rattle.pv_tree.specs.declared.Tree.TheOpen.{Tree-F}
use Rattle.pv_ser.specs.declared.pick.Pick.{Pick}
use Rattle.pv_ser.specs.declared.pick.Pick.TheVariants as pick

-- an integer from 0 to 4,294,967,295
abbrev pub small : Option ℤ → Option ℕ
small (Some (pos n)) = if nat_le n 4294967295 then Some n else None
small (Some (negsuc n)) = None
small None = None

-- the count that a number spells without a point and an exponent
abbrev pub count_at : List ℕ → Option ℕ
count_at lexeme = small (integer lexeme)

-- a count's name
abbrev pub count_name : Option ℕ → Option (List ℕ)
count_name None = None
count_name (Some n) = Some (decimal n)

-- a way from a tree to a part of it
abbrev pub Way : Type 0
Way = List Step

-- names with their picks
abbrev pub Picked : Type 0
Picked = List (List ℕ × Pick)

-- what a tree is read as: a pick, or the way to the first part that cannot stand there; and the
-- name for which it stands as the item of a list, where it is one
pub record Reading : Type 0 where
  pub as_pick : Result Pick Way
  pub as_name : Option (List ℕ)

-- no pick and no item
abbrev pub neither : Reading
neither = record { as_pick = Err []; as_name = None }

-- one member before those behind it: the first that is no pick decides
abbrev pub member_read : List ℕ → Result Pick Way → Result Picked Way → Result Picked Way
member_read name (Err way) rest = Err (Name name ∷ way)
member_read name (Ok p) (Err way) = Err way
member_read name (Ok p) (Ok ps) = Ok ((name, p) ∷ ps)

-- the members of an object
abbrev pub members_read : List (List ℕ × Reading) → Result Picked Way
members_read [] = Ok []
members_read (m ∷ ms) = member_read m.0 m.1.as_pick (members_read ms)

-- one item before those behind it: the first that is none decides
abbrev pub item_read : ℕ → Option (List ℕ) → Result (List (List ℕ)) Way → Result (List (List ℕ)) Way
item_read place None rest = Err (Index place ∷ [])
item_read place (Some name) (Err way) = Err way
item_read place (Some name) (Ok names) = Ok (name ∷ names)

-- the names for which the items of a list stand, the first of them at this place
abbrev pub items_read : ℕ → List Reading → Result (List (List ℕ)) Way
items_read place [] = Ok []
items_read place (r ∷ rs) = item_read place r.as_name (items_read (place + 1) rs)

-- names put one after the other, each at its place in the order of names; of one that stands twice
-- the last counts
abbrev pub put_all : Picked → Picked → Picked
put_all done [] = done
put_all done (m ∷ ms) = put_all (insert_entry name_cmp done m.0 m.1) ms

-- names with their picks, in the order of names
abbrev pub by_name : Picked → Picked
by_name ms = put_all [] ms

-- a name, all of it
abbrev pub all_of : List ℕ → List ℕ × Pick
all_of name = (name, pick.All)

-- a pick of an object
abbrev pub some_of : Result Picked Way → Result Pick Way
some_of (Ok ms) = Ok (pick.Some (by_name ms))
some_of (Err way) = Err way

-- a pick of a list
abbrev pub listed : Result (List (List ℕ)) Way → Result Pick Way
listed (Ok names) = Ok (pick.Some (by_name (map all_of names)))
listed (Err way) = Err way

-- `true` alone is all
abbrev pub flag_read : Bool → Result Pick Way
flag_read true = Ok pick.All
flag_read false = Err []

-- one level, by what the trees inside are read as
abbrev pub reading_step : Tree-F Reading → Reading
reading_step Tree-F.Null = neither
reading_step (Tree-F.Bool b) = record { as_pick = flag_read b; as_name = None }
reading_step (Tree-F.Num lexeme) =
    record { as_pick = Err []; as_name = count_name (count_at lexeme) }
reading_step (Tree-F.Str text) = record { as_pick = Err []; as_name = Some text }
reading_step (Tree-F.Array items) =
    record { as_pick = listed (items_read 0 items); as_name = None }
reading_step (Tree-F.Object d) = record { as_pick = some_of (members_read d.members); as_name = None }

-- what a tree is read as
abbrev pub reading : Tree → Reading
reading t = fold-Tree Reading reading_step t

-- a member beside what its value is read as
abbrev pub with_reading : List ℕ × Tree → List ℕ × Reading
with_reading m = (m.0, reading m.1)

-- the pick that a tree is, or the way to the first part that cannot stand there
abbrev pub pick_read : Tree → Result Pick Way
pick_read t = (reading t).as_pick

-- the name for which a tree stands as the item of a list
abbrev pub name_at : Tree → Option (List ℕ)
name_at t = (reading t).as_name
