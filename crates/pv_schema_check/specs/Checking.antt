-- All that is wrong with a tree as each kind, in the order in which it is refused. What is to be an
-- object and is none, or has no type that is known, is refused for that alone. In any other object
-- comes what is wrong with its keys, in the order in which they stand, then the keys that have to
-- be there and are not, in the order of the table, and then what does not fit together. A schema
-- in a list of definitions is refused last for the name that it does not have.
use Rattle.std.specs.Prelude.{ℕ, ◌+◌, Bool, true, false, not, ◌&&◌, nat_lt, if◌then◌else◌}
use Rattle.std.specs.Prelude.{List, [], ◌∷◌, ◌++◌, map, length}
use Rattle.std.specs.Prelude.{Option, None, Some, is_some, Result, Ok, Err}
use Rattle.std.specs.List.{flat_map}
use Rattle.pv_tree.specs.Parts.{items_at, members_at}
use Rattle.pv_tree.specs.declared.Step.{Step}
use Rattle.pv_tree.specs.declared.Step.TheVariants.{Name, Index}
use Rattle.pv_tree.specs.declared.Tree.{Tree, out-Tree, rec-Tree, map-Tree}
use Rattle.pv_tree.specs.declared.Tree.TheOpen.{Tree-F}
use Rattle.pv_tree.specs.declared.Tree.TheViews.{roll-Tree}
use Rattle.pv_rules.specs.declared.EnumMember.{EnumMember}
use Rattle.pv_rules.specs.declared.SubType.{SubType}
use Rattle.pv_rules.specs.Members.{all_are_of}
use Rattle.pv_schema_values.specs.Values.{is_value, is_false, text_of, flag_of, count_of}
use Rattle.pv_schema_values.specs.Values.{members_of, sub_type_of}
use Rattle.pv_schema_values.specs.declared.ValueKind.{ValueKind}
use Rattle.pv_schema_table.specs.Keys.{text}
use Rattle.pv_schema_check.specs.Find.{tree_at}
use Rattle.pv_schema_table.specs.Table.{ObjectRow, TypeRow, keys, kind_under, node_types}
use Rattle.pv_schema_table.specs.Table.{field_types, config}
use Rattle.pv_schema_check.specs.ObjectTypes.{row_of}
use Rattle.pv_schema_check.specs.declared.fault.Code.{Code}
use Rattle.pv_schema_check.specs.declared.fault.Code.TheVariants.{Shape, NotYet}
use Rattle.pv_schema_check.specs.declared.fault.ShapeCode.TheVariants.{NotObject, MissingKey}
use Rattle.pv_schema_check.specs.declared.fault.ShapeCode.TheVariants.{UnknownKey, BadValue}
use Rattle.pv_schema_check.specs.declared.fault.Refusal.{Refusal}
use Rattle.pv_schema_table.specs.declared.Key.{Key}
use Rattle.pv_schema_table.specs.declared.Key.TheVariants as key
use Rattle.pv_schema_table.specs.declared.Kind.{Kind}
use Rattle.pv_schema_table.specs.declared.Kind.TheVariants as kind
use Rattle.pv_schema_table.specs.declared.Fit.{Fit}
use Rattle.pv_schema_table.specs.declared.Fit.TheVariants as fit
use Rattle.pv_schema_table.specs.declared.KeyRow.{KeyRow}
use Rattle.pv_schema_table.specs.declared.Test.{Test}

-- a refusal at the place itself
abbrev pub refused : Code → Refusal
refused code = record { path = []; code = code }

-- a refusal seen from the whole, where it is one step inside
abbrev pub under : Step → Refusal → Refusal
under step r = record { path = step ∷ r.path; code = r.code }

-- the same of several
abbrev pub all_under : Step → List Refusal → List Refusal
all_under step = map (under step)

-- a refusal at a key
abbrev pub at_key : Key → Code → Refusal
at_key k code = under (Name (text k)) (refused code)

-- how many items there are; none where there is no list
abbrev pub size_of : Option (List Tree) → ℕ
size_of None = 0
size_of (Some ts) = length ts

-- how many items a tree has
abbrev pub items_size : Tree → ℕ
items_size t = size_of (items_at (out-Tree t))

-- whether a number, where there is one, is below another
abbrev pub is_below : Option ℕ → ℕ → Bool
is_below None n = true
is_below (Some v) n = nat_lt v n

-- whether the values of members are of a type, where there are both
abbrev pub are_of : Option SubType → Option (List EnumMember) → Bool
are_of None ms = true
are_of (Some s) None = true
are_of (Some s) (Some ms) = all_are_of s ms

-- whether a value fits another: a place lies in a list, members are of a sub type, or of two flags
-- not both are false
unfoldable pub fits : Fit → Tree → Tree → Bool
fits fit.PlaceInList place items = is_below (count_of place) (items_size items)
fits fit.OfSubType s members = are_of (sub_type_of s) (members_of members)
fits fit.NotBothFalse t u = not (is_false (flag_of t) && is_false (flag_of u))

-- what is wrong where two values are there and do not fit
abbrev pub misfit : Test → Option Tree → Option Tree → List Refusal
misfit test None other = []
misfit test (Some t) None = []
misfit test (Some t) (Some u) =
    if fits test.fit t u then [] else at_key test.key (Shape BadValue) ∷ []

-- by the trees under the keys of an object
module _ (at : Key → Option Tree) where
  -- whether a key has to be there and is not
  abbrev pub is_absent : KeyRow → Bool
  is_absent r = if r.required then not (is_some (at r.key)) else false

  -- the keys that have to be there and are not
  abbrev pub missing : List KeyRow → List Refusal
  missing [] = []
  missing (r ∷ rs) =
      if is_absent r then at_key r.key (Shape MissingKey) ∷ missing rs else missing rs

  -- what does not fit together
  abbrev pub misfits : List Test → List Refusal
  misfits tests = flat_map (λ test. misfit test (at test.key) (at test.other)) tests

  -- what is left to say of an object whose keys are right
  unfoldable pub rest_faults : ObjectRow → List Refusal
  rest_faults o = missing (keys o) ++ misfits o.tests

-- what is wrong with a tree as a value
abbrev pub value_faults : ValueKind → Tree → List Refusal
value_faults v t = if is_value v t then [] else refused (Shape BadValue) ∷ []

-- what is wrong where a list or an object is there and has nothing inside
abbrev pub nothing_faults : {Y : Type 0} → Option (List Y) → List Refusal
nothing_faults None = []
nothing_faults (Some []) = refused (Shape BadValue) ∷ []
nothing_faults (Some (y ∷ ys)) = []

-- what is wrong where a name has to stand under `ref`
abbrev pub unnamed_faults : Option Tree → List Refusal
unnamed_faults None = at_key key.Ref (Shape MissingKey) ∷ []
unnamed_faults (Some t) = []

-- one level, by the trees inside and by what is wrong with each as each kind
module _ {X : Type 0} (tree : X → Tree) (inner : X → Kind → List Refusal) where
  -- what is wrong with what stands under a key, by what may stand there
  abbrev pub faults_under : Option Kind → X → List Refusal
  faults_under None x = refused (Shape UnknownKey) ∷ []
  faults_under (Some k) x = inner x k

  -- what is wrong with a member
  abbrev pub member_faults : ObjectRow → List ℕ × X → List Refusal
  member_faults o m = all_under (Name m.0) (faults_under (kind_under o m.0) m.1)

  -- what is wrong with an object that takes what the row says
  abbrev pub object_faults : ObjectRow → List (List ℕ × X) → List Refusal
  object_faults o ms = flat_map (member_faults o) ms ++ rest_faults (tree_at tree ms) o

  -- the same, where the row was found by the object's type
  abbrev pub row_faults : Result TypeRow Code → List (List ℕ × X) → List Refusal
  row_faults (Err code) ms = at_key key.Type code ∷ []
  row_faults (Ok row) ms = object_faults row.object ms

  -- what is wrong with an object of one of these types, or with what is no object
  abbrev pub typed_faults : List TypeRow → Option (List (List ℕ × X)) → List Refusal
  typed_faults rows None = refused (Shape NotObject) ∷ []
  typed_faults rows (Some ms) = row_faults (row_of rows (tree_at tree ms key.Type)) ms

  -- what is wrong with an object without a type, or with what is no object
  abbrev pub untyped_faults : ObjectRow → Option (List (List ℕ × X)) → List Refusal
  untyped_faults o None = refused (Shape NotObject) ∷ []
  untyped_faults o (Some ms) = object_faults o ms

  -- what is wrong with what stands under each name of an object, as a kind
  abbrev pub each_faults : Kind → List (List ℕ × X) → List Refusal
  each_faults k ms = flat_map (λ m. all_under (Name m.0) (inner m.1 k)) ms

  -- the same, or what is wrong with what is no object
  abbrev pub named_faults : Kind → Option (List (List ℕ × X)) → List Refusal
  named_faults k None = refused (Shape BadValue) ∷ []
  named_faults k (Some ms) = each_faults k ms

  -- what is wrong with items as a kind, from a place on
  abbrev pub item_faults : Kind → ℕ → List X → List Refusal
  item_faults k i [] = []
  item_faults k i (x ∷ xs) = all_under (Index i) (inner x k) ++ item_faults k (i + 1) xs

  -- what is wrong with a list of items of a kind, or with what is no list
  abbrev pub list_faults : Kind → Option (List X) → List Refusal
  list_faults k None = refused (Shape BadValue) ∷ []
  list_faults k (Some xs) = item_faults k 0 xs

  -- what is wrong with a schema that has a label
  abbrev pub labelled_faults : X → X → List Refusal
  labelled_faults x label =
      if is_some (text_of (tree label))
      then all_under (Index 0) (inner x kind.Schema)
      else refused (Shape BadValue) ∷ []

  -- the same by the items of a list, where these are a schema and its label
  abbrev pub pair_faults : List X → List Refusal
  pair_faults [] = refused (Shape BadValue) ∷ []
  pair_faults (x ∷ []) = refused (Shape BadValue) ∷ []
  pair_faults (x ∷ y ∷ []) = labelled_faults x y
  pair_faults (x ∷ y ∷ z ∷ zs) = refused (Shape BadValue) ∷ []

  -- what is wrong with a choice of a union: a schema, or a list of a schema and its label
  abbrev pub choice_faults : Tree-F X → List Refusal
  choice_faults Tree-F.Null = refused (Shape BadValue) ∷ []
  choice_faults (Tree-F.Bool b) = refused (Shape BadValue) ∷ []
  choice_faults (Tree-F.Num lexeme) = refused (Shape BadValue) ∷ []
  choice_faults (Tree-F.Str text) = refused (Shape BadValue) ∷ []
  choice_faults (Tree-F.Array xs) = pair_faults xs
  choice_faults (Tree-F.Object d) = typed_faults node_types (Some d.members)

  -- what is wrong with the choices of a union: a list that is not empty
  abbrev pub choices_faults : Option (List X) → List Refusal
  choices_faults xs = nothing_faults xs ++ list_faults kind.Choice xs

  -- what is wrong with the choices of a tagged union: an object of schemas that is not empty
  abbrev pub tagged_faults : Option (List (List ℕ × X)) → List Refusal
  tagged_faults ms = nothing_faults ms ++ named_faults kind.Schema ms

  -- what is wrong with a schema in a list of definitions, or with what is no object
  abbrev pub definition_faults : Option (List (List ℕ × X)) → List Refusal
  definition_faults None = refused (Shape NotObject) ∷ []
  definition_faults (Some ms) =
      typed_faults node_types (Some ms) ++ unnamed_faults (tree_at tree ms key.Ref)

  -- what is wrong with a level as each kind
  abbrev pub level_faults : Kind → Tree-F X → List Refusal
  level_faults (kind.Value v) x = value_faults v (roll-Tree (map-Tree X Tree tree x))
  level_faults kind.Schema x = typed_faults node_types (members_at x)
  level_faults kind.Schemas x = list_faults kind.Schema (items_at x)
  level_faults kind.Choices x = choices_faults (items_at x)
  level_faults kind.Choice x = choice_faults x
  level_faults kind.Tagged x = tagged_faults (members_at x)
  level_faults (kind.Fields k) x = named_faults (kind.Field k) (members_at x)
  level_faults (kind.Field k) x = typed_faults (field_types k) (members_at x)
  level_faults kind.Definitions x = list_faults kind.Definition (items_at x)
  level_faults kind.Definition x = definition_faults (members_at x)
  level_faults kind.Config x = untyped_faults config (members_at x)
  level_faults kind.NotBuilt x = refused NotYet ∷ []

-- what is wrong with a tree as each kind
pub record Checked : Type 1 where
  pub as_kind : Kind → List Refusal

-- one level
abbrev pub check_step : (X : Type 0) → (X → Tree) → (X → Checked) → Tree-F X → Checked
check_step X tree inner x = record {
  as_kind = λ k. level_faults tree (λ y. (inner y).as_kind) k x;
}

-- all that is wrong with a tree, as each kind
abbrev pub checked : Tree → Checked
checked = rec-Tree Checked check_step

-- all that is wrong with a tree as a kind
unfoldable pub faults : Tree → Kind → List Refusal
faults t k = (checked t).as_kind k
