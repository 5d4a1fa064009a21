-- The picks in force at an array or an object, which keep its parts or leave them out.
use Rattle.std.specs.Prelude.{ℕ, nat_eq, length, Bool, true, false, not, ◌||◌, ◌&&◌, if◌then◌else◌, List, [], ◌∷◌, ◌++◌, codes, bytes_eq, Option, Some, None, is_some}
use Rattle.std.specs.List.{flat_map, list_any}
use Rattle.pv_ser.specs.Names.{value_under}
use Rattle.pv_ser.specs.declared.pick.Pick.{Pick, out-Pick}
use Rattle.pv_ser.specs.declared.pick.Pick.TheOpen.{Pick-F}

-- the name that stands for each part
abbrev pub each_part : List ℕ
each_part = codes "__all__"

-- all of a value is picked
abbrev pub all_at : Pick-F Pick → Bool
all_at Pick-F.All = true
all_at (Pick-F.Some ms) = false

-- the same of a pick
abbrev pub is_all : Pick → Bool
is_all p = all_at (out-Pick p)

-- what a pick has under a name; where all of a value is picked, it has nothing under any
abbrev pub under_at : List ℕ → Pick-F Pick → Option Pick
under_at name Pick-F.All = None
under_at name (Pick-F.Some ms) = value_under name ms

-- the same of a pick
abbrev pub under : List ℕ → Pick → Option Pick
under name p = under_at name (out-Pick p)

-- what is there, as a list
abbrev pub if_there : Option Pick → List Pick
if_there None = []
if_there (Some p) = p ∷ []

-- what a pick has for a part of this name, each pick once
abbrev pub for_part : List ℕ → Pick → List Pick
for_part name p =
    (if bytes_eq name each_part then [] else if_there (under name p)) ++ if_there (under each_part p)

-- what these picks have for it
abbrev pub inside : List ℕ → List Pick → List Pick
inside name ps = flat_map (for_part name) ps

-- an include pick keeps a part of this name
abbrev pub keeps : List ℕ → Pick → Bool
keeps name p = is_all p || (is_some (under name p) || is_some (under each_part p))

-- a part of this name is kept by the include picks in force: where there is none, or by one of them
abbrev pub is_kept : List ℕ → List Pick → Bool
is_kept name ps = nat_eq (length ps) 0 || list_any (keeps name) ps

-- a part of this name is left out by an exclude pick in force, which is all of the part
abbrev pub is_left_out : List ℕ → List Pick → Bool
is_left_out name ps = list_any is_all (inside name ps)

-- the picks in force at an array or an object
pub record InForce : Type 0 where
  pub include : List Pick
  pub exclude : List Pick

-- at a whole value: those of the options
abbrev pub at_root : Option Pick → Option Pick → InForce
at_root included excluded = record { include = if_there included; exclude = if_there excluded }

-- at a part of this name, where it is kept
abbrev pub at_part : List ℕ → InForce → Option InForce
at_part name f =
    if is_kept name f.include && not (is_left_out name f.exclude)
    then Some (record { include = inside name f.include; exclude = inside name f.exclude })
    else None
