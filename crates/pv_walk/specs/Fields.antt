-- What lists of fields give for an object, by what their children give.
use Rattle.std.specs.Prelude.{ℕ, ◌+◌, List, [], ◌∷◌, length, slice_get, Option, None, Some, Bool, true, false}
use Rattle.std.specs.List.{flat_map}
use Rattle.pv_tree.specs.declared.Tree.{Tree, out-Tree}
use Rattle.pv_tree.specs.Parts.{members_at}
use Rattle.pv_tree.specs.Plain.{plain}
use Rattle.pv_rules.specs.declared.ExtraBehavior.{ExtraBehavior}
use Rattle.pv_rules.specs.declared.ExtraBehavior.TheVariants as behavior
use Rattle.pv_rules.specs.declared.FieldRule.{FieldRule}
use Rattle.pv_rules.specs.declared.FieldsKind.{FieldsKind}
use Rattle.pv_rules.specs.declared.FieldsKind.TheVariants as kinds
use Rattle.pv_rules.specs.declared.FieldsRule.{FieldsRule}
use Rattle.pv_rules.specs.declared.Settings.{Settings}
use Rattle.pv_fault.specs.declared.Grade.TheVariants as grade
use Rattle.pv_fault.specs.declared.Kind.{Kind}
use Rattle.pv_fault.specs.declared.Kind.TheVariants as kind
use Rattle.pv_fault.specs.declared.Outcome.{Outcome}
use Rattle.pv_fault.specs.declared.Outcome.TheVariants.{Good}
use Rattle.pv_fault.specs.Single.{one_error}
use Rattle.pv_fields.specs.Paths.{extra_of}
use Rattle.pv_fields.specs.Finding.{found_field, extras_in}
use Rattle.pv_fields.specs.FieldList.{FieldAnswer, Given, Defaulted, Missing, Absent, Kept, Forbidden, Answered, Extra, fields_of}
use Rattle.pv_walk.specs.Rules.{Child, no_child}

-- the plain value of a tree
abbrev pub plainly : Child
plainly t = Good (plain t) grade.Exact None

-- what stands in for a tree that is not there: what the child gives for the default where defaults
-- are validated, else the plain value of the default
abbrev pub missing_value : Bool → Child → Tree → Outcome
missing_value false child default = plainly default
missing_value true child default = child default

-- What came of a field that was not found: its default where it has one; else it is missing where
-- it is required.
abbrev pub unfound : Bool → Option Outcome → FieldAnswer
unfound required (Some o) = Defaulted o
unfound true None = Missing
unfound false None = Absent

-- what came of a field, by the number of the path at which a tree was found, and this tree
abbrev pub answer_of : Bool → Child → Option Outcome → Option (ℕ × Tree) → FieldAnswer
answer_of required child default None = unfound required default
answer_of required child default (Some hit) = Given hit.0 (child hit.1)

-- the child, or what stands where there is none
abbrev pub child_or_none : Option Child → Child
child_or_none None = no_child
child_or_none (Some child) = child

-- the default, where there is one
abbrev pub default_or_none : Option (Option Outcome) → Option Outcome
default_or_none None = None
default_or_none (Some default) = default

-- The fields of an object under settings, by the children and the defaults, both in the order of
-- the fields.
module _ (s : Settings) (t : Tree) (children : List Child) (defaults : List (Option Outcome)) where
  -- the field of a position with what came of it
  abbrev pub answered : ℕ → FieldRule → Answered
  answered i f = record {
    field = f;
    answer = answer_of f.required (child_or_none (slice_get children i))
        (default_or_none (slice_get defaults i)) (found_field s t f);
  }

  -- the fields from a position on
  abbrev pub answers : ℕ → List FieldRule → List Answered
  answers i [] = []
  answers i (f ∷ fs) = answered i f ∷ answers (i + 1) fs

-- what an extra member is validated by
abbrev pub extra_child : Option Child → Child
extra_child None = plainly
extra_child (Some child) = child

-- what came of an extra member; one that is ignored is left out
abbrev pub extra_by : ExtraBehavior → Option Child → List ℕ × Tree → List Extra
extra_by behavior.Ignore child m = []
extra_by behavior.Forbid child m =
    record { name = m.0; input = m.1; answer = Forbidden } ∷ []
extra_by behavior.Allow child m =
    record { name = m.0; input = m.1; answer = Kept (extra_child child m.1) } ∷ []

-- what came of extra members
abbrev pub extras_of : ExtraBehavior → Option Child → List (List ℕ × Tree) → List Extra
extras_of b child ms = flat_map (extra_by b child) ms

-- the error of a tree that is no object
abbrev pub object_error : FieldsKind → Kind
object_error kinds.Model = kind.ModelType
object_error kinds.TypedDict = kind.DictType

-- A list of fields: every field by its child, and every extra member by the child behind those of
-- the fields, where there is one.
abbrev pub fields_in : FieldsRule → Settings → List Child → List (Option Outcome) → Tree
    → Option (List (List ℕ × Tree)) → Outcome
fields_in r s children defaults t None = one_error (object_error r.kind) t
fields_in r s children defaults t (Some ms) =
    fields_of r s t (answers s t children defaults 0 r.fields)
    (extras_of (extra_of r s) (slice_get children (length r.fields)) (extras_in r s t))

-- of a tree
unfoldable pub fields : FieldsRule → Settings → List Child → List (Option Outcome) → Tree
    → Outcome
fields r s children defaults t = fields_in r s children defaults t (members_at (out-Tree t))
