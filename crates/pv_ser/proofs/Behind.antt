-- What is put of an object's members behind those that are put already.
use Rattle.std.specs.Prelude.{ℕ, List, ◌++◌, Result, Ok, Err}
use Rattle.pv_ser.specs.Picks.{Way, Picked, put_all}

-- these, and then what the rest is read as
abbrev pub behind : Picked → Result Picked Way → Result Picked Way
behind done (Ok rest) = Ok (put_all done rest)
behind done (Err way) = Err way

-- these names before what the rest is read as
abbrev pub names_behind : List (List ℕ) → Result (List (List ℕ)) Way → Result (List (List ℕ)) Way
names_behind done (Ok rest) = Ok (done ++ rest)
names_behind done (Err way) = Err way
