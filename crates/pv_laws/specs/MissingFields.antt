-- Fields of which an object has nothing.
use Rattle.std.specs.Prelude.{◌≡◌, ℕ, true, List, None, Some, Option, slice_get}
use Rattle.std.specs.List.{Contains}
use Rattle.pv_tree.specs.declared.Tree.{Tree, out-Tree}
use Rattle.pv_tree.specs.Parts.{members_at}
use Rattle.pv_rules.specs.declared.FieldRule.{FieldRule}
use Rattle.pv_rules.specs.declared.Settings.{Settings}
use Rattle.pv_fault.specs.declared.Kind.TheVariants as kind
use Rattle.pv_fault.specs.declared.LineError.{LineError}
use Rattle.pv_fault.specs.declared.Outcome.{Outcome}
use Rattle.pv_fault.specs.declared.Outcome.TheVariants.{Good, Bad}
use Rattle.pv_fault.specs.Single.{error_here}
use Rattle.pv_fault.specs.Under.{at_path}
use Rattle.pv_fields.specs.Finding.{found_field}
use Rattle.pv_fields.specs.Paths.{place_of}
use Rattle.pv_walk.specs.Fields.{default_or_none}

-- the outcome has this error
abbrev pub HasError : LineError → Outcome → Type 0
HasError e (Good v g n) = ⊥
HasError e (Bad es) = Contains es e

-- The field of this position is required, nothing stands in for it, and the object has no value of
-- it.
pub record IsMissing (s : Settings) (fs : List FieldRule) (defaults : List (Option Outcome))
    (t : Tree) (i : ℕ) (f : FieldRule) : Type 0 where
  pub field : slice_get fs i ≡ Some f
  pub required : f.required ≡ true
  pub default : default_or_none (slice_get defaults i) ≡ None
  pub members : List (List ℕ × Tree)
  pub object : members_at (out-Tree t) ≡ Some members
  pub found : found_field s t f ≡ None

-- the error of a missing field: at its place, with the whole object as input
abbrev pub missing_error : Settings → Tree → FieldRule → LineError
missing_error s t f = at_path (place_of s f) (error_here kind.Missing t)
