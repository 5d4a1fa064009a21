-- A location as a JSON list of names and places.
use Rattle.std.specs.Prelude.{ℕ, List, map}
use Rattle.std.specs.Fmt.{decimal}
use Rattle.pv_tree.specs.declared.Step.{Step}
use Rattle.pv_tree.specs.declared.Step.TheVariants.{Name, Index}
use Rattle.pv_notation.specs.Strings.{quoted}
use Rattle.pv_notation.specs.Lists.{list_text}

-- a name as a JSON string, a place as a decimal
abbrev pub step_text : Step → List ℕ
step_text (Name name) = quoted name
step_text (Index place) = decimal place

-- a whole location
unfoldable pub loc_text : List Step → List ℕ
loc_text steps = list_text (map step_text steps)
