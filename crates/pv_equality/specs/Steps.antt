-- The steps by which a set and a dict are made: what is kept when one more came.
use Rattle.std.specs.Prelude.{List, [], ◌∷◌, ◌++◌, if◌then◌else◌}
use Rattle.std.specs.List.{list_any}
use Rattle.pv_tree.specs.declared.Value.{Value}
use Rattle.pv_equality.specs.Equality.{same}

-- the values when one more came: it goes to the end, where none there is the same
abbrev pub put_item : List Value → Value → List Value
put_item kept v = if list_any (λ k. same k v) kept then kept else kept ++ v ∷ []

-- the entries when one more came: where its key is the same as one there, that one keeps its place
-- and takes the value
abbrev pub put_entry : List (Value × Value) → Value → Value → List (Value × Value)
put_entry [] key v = (key, v) ∷ []
put_entry (e ∷ es) key v = if same e.0 key then (e.0, v) ∷ es else e ∷ put_entry es key v
