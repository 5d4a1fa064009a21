-- Where the tags of choices stand.
use Rattle.std.specs.Prelude.{◌≡◌, ℕ, List, String}
use Rattle.std.specs.BTreeMap.{BTreeMap, get_by_text}
use Rattle.pv_union.specs.Tags.{place_from}

-- for each text, what is kept is its first place among the tags
abbrev pub KeepsPlaces : {Y : Type 0} → BTreeMap (String Y) ℕ → List (List ℕ) → Type 0
KeepsPlaces places tags = (key : List ℕ) → get_by_text places key ≡ place_from 0 tags key
