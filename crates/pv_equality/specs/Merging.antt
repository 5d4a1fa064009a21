-- What sets keep of their items, and dicts of their entries.
use Rattle.std.specs.Prelude.{◌≡◌, false, List, [], ◌∷◌, ◌++◌, map, if◌then◌else◌}
use Rattle.std.specs.List.{list_any}
use Rattle.pv_tree.specs.declared.Value.{Value}
use Rattle.pv_tree.specs.declared.Value.TheVariants as value
use Rattle.pv_equality.specs.Equality.{same}

-- no two of them are the same
abbrev pub AreDistinct : List Value → Type 0
AreDistinct [] = Unit {0}
AreDistinct (v ∷ vs) = (list_any (same v) vs ≡ false) × AreDistinct vs

-- of values that stand behind others, each that is the same as none before it
abbrev pub first_behind : List Value → List Value → List Value
first_behind before [] = []
first_behind before (v ∷ vs) =
    (if list_any (λ b. same b v) before then [] else v ∷ []) ++ first_behind (before ++ v ∷ []) vs

-- each value that is the same as none before it
unfoldable pub first_of_each : List Value → List Value
first_of_each vs = first_behind [] vs

-- the value of the last entry whose key is the same, or `v` where there is no such entry
abbrev pub last_value : Value → Value → List (Value × Value) → Value
last_value k v [] = v
last_value k v (e ∷ es) = last_value k (if same k e.0 then e.1 else v) es

-- each key that is the same as none before it, with the value of the last entry whose key is the
-- same; there is one, since the key's own entry is among them
unfoldable pub merged_entries : List (Value × Value) → List (Value × Value)
merged_entries es =
    map (λ k. (k, last_value k value.None es)) (first_of_each (map (λ e. e.0) es))
