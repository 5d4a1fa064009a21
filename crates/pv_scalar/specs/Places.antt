-- Where values stand in a list.
use Rattle.std.specs.Prelude.{◌≡◌, ℕ, if◌then◌else◌, bytes_eq, List, Option, None, Some}
use Rattle.std.specs.List.{position_from}
use Rattle.std.specs.Option.{option_or}
use Rattle.std.specs.HashMap.{get}
use Rattle.std.specs.Ordering.{int_eq}
use Rattle.pv_rules.specs.declared.Literal.{Literal}
use Rattle.pv_rules.specs.declared.Literal.TheVariants as literal
use Rattle.pv_scalar.specs.declared.places.Places.{Places}
use Rattle.pv_scalar.specs.Literals.{literal_same}

-- the first place in the list with this value
unfoldable pub first_place : List Literal → Literal → Option ℕ
first_place values l = position_from (λ v. literal_same v l) 0 values

-- the place that is kept for a value
abbrev pub place_in : Places → Literal → Option ℕ
place_in places literal.Null = places.null
place_in places (literal.Flag b) = if b then places.yes else places.no
place_in places (literal.Int n) = get int_eq places.ints n
place_in places (literal.Text text) = get bytes_eq places.texts text

-- for each value its first place is kept
pub record KeepsPlaces (places : Places) (values : List Literal) : Type 0 where
  pub place : (l : Literal) → place_in places l ≡ first_place values l

-- the place is kept for one more value, if it had none
abbrev pub NotesPlace : Places → Places → Literal → ℕ → Type 0
NotesPlace old new value place =
    (l : Literal) → place_in new l ≡ option_or (place_in old l)
    (if literal_same value l then Some place else None)
