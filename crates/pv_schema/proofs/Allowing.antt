-- A tree with which nothing is wrong is a schema that is allowed, by induction on trees.
use Rattle.std.proofs.Common.{ap, arith, ◌≡◌, ℕ, ◌+◌, Bool, true, false, if◌then◌else◌, List, [], ◌∷◌, map, Option, None, Some, Result, Ok, Err, flat_map, refl, sym, ◌∙◌, subst}
use Rattle.std.specs.Prelude.{IfOk, bytes_eq}
use Rattle.std.specs.Option.{IfSome, option_map}
use Rattle.std.specs.List.{AllByRecursion, IsDistinct}
use Rattle.std.specs.Prelude.{is_some}
use Rattle.pv_tree.specs.Names.{names, HasDistinctNames}
use Rattle.pv_rules.specs.declared.FieldsKind.{FieldsKind}
use Rattle.pv_tree.specs.Parts.{items_at, members_at}
use Rattle.pv_tree.specs.declared.Step.TheVariants.{Name, Index}
use Rattle.pv_tree.specs.declared.Tree.{Tree, out-Tree, out-roll-Tree, map-Tree}
use Rattle.pv_tree.specs.declared.Tree.TheOpen.{Tree-F}
use Rattle.pv_tree.specs.declared.Tree.TheViews.{roll-Tree}
use Rattle.pv_tree.specs.declared.Tree.TheFolds.{ind-Tree}
use Rattle.pv_node.specs.declared.Node.{Node}
use Rattle.pv_node.specs.Preorder.{preorder}
use Rattle.pv_schema_values.specs.Values.{text_of}
use Rattle.pv_schema_table.specs.Keys.{text}
use Rattle.pv_schema_check.specs.Find.{find, itself, tree_at}
use Rattle.pv_schema_table.specs.Table.{ObjectRow, TypeRow, row_named as row_under, keys, kind_under, node_types, field_types, config}
use Rattle.pv_schema_check.specs.Checking.{faults, member_faults, object_faults, row_faults, typed_faults, untyped_faults, each_faults, named_faults, item_faults, list_faults, pair_faults, choice_faults, choices_faults, tagged_faults, unnamed_faults, definition_faults, all_under, level_faults, rest_faults, missing, misfits}
use Rattle.pv_schema_check.specs.ObjectTypes.{row_of, row_of_name, row_found, where_built}
use Rattle.pv_schema.specs.Making.{made, level_made, node_by_row, node_in, nodes_in, named_in, choices_in, schema_in, choice_schema, definitions_in, fields_in, field_in, part_at}
use Rattle.pv_schema.specs.Fields.{Field}
use Rattle.pv_schema.specs.Configs.{settings}
use Rattle.pv_schema.specs.Written.{or_empty}
use Rattle.pv_schema_check.specs.Answers.{first}
use Rattle.pv_schema.specs.Reading.{NoSchema, schema_of, schema_by}
use Rattle.pv_rules.specs.Allowed.{AreSettings}
use Rattle.pv_node.specs.Allowed.{IsAllowed, AreAllowed, IsNamed}
use Rattle.pv_schema_check.specs.declared.Code.{Code}
use Rattle.pv_schema_check.specs.declared.Refusal.{Refusal}
use Rattle.pv_schema_table.specs.declared.Key.TheVariants as key
use Rattle.pv_schema_table.specs.declared.Kind.{Kind}
use Rattle.pv_schema_table.specs.declared.Kind.TheVariants as kind
use Rattle.pv_schema_table.specs.declared.Makes.{Makes}
use Rattle.pv_schema_table.specs.declared.Makes.TheVariants as makes
use Rattle.pv_schema_check.proofs.CheckOpens.{faults_open}
use Rattle.pv_schema.proofs.MakeOpens.{made_opens}
use Rattle.pv_schema.proofs.AllowedKeys.{AreAllowedAs, IsAllowedField, AreAllowedFields, AreAllowedChoices, AreAllowedTagged, AreAllowedDefinitions, no_fields, IsSound, IsRight, both_empty, none_under, each_append, members_right, found_is, none_absent}
use Rattle.pv_schema.proofs.AllowedBodies.{IsClean, IsMadeRight, rows_are, TakesName, IsMadeNamed, row_named, rows_take_names, IsFieldRight, field_rows_are, settings_are}

-- a row that was found is one of the table's
module _ (P : TypeRow → Type 0) where
  found_first : (b : Bool) (r : TypeRow) (o : Option TypeRow) → P r → IfSome o P → IfSome (if b then Some r else o) P
  found_first true r o h k = h
  found_first false r o h k = k

  named_is : (name : List ℕ) (rows : List TypeRow) → AllByRecursion P rows → IfSome (row_under name rows) P
  named_is name [] h = tt
  named_is name (r ∷ rows) h = found_first (bytes_eq name r.name) r (row_under name rows) h.0 (named_is name rows h.1)

  built_is : (m : Makes) (r : TypeRow) → P r → IfOk (where_built m r) P
  built_is makes.NotBuilt r h = tt
  built_is (makes.Node n) r h = h
  built_is makes.Field r h = h

-- and one whose type is built is what follows of that
module _ (P Q : TypeRow → Type 0) (built : (r : TypeRow) → P r → IfOk (where_built r.makes r) Q) where
  found_row : (o : Option TypeRow) → IfSome o P → IfOk (row_found o) Q
  found_row None h = tt
  found_row (Some r) h = built r h

  name_row : (rows : List TypeRow) (o : Option (List ℕ)) → AllByRecursion P rows → IfOk (row_of_name rows o) Q
  name_row rows None h = tt
  name_row rows (Some name) h = found_row (row_under name rows) (named_is P name rows h)

  built_row : (rows : List TypeRow) (o : Option Tree) → AllByRecursion P rows → IfOk (row_of rows o) Q
  built_row rows None h = tt
  built_row rows (Some t) h = name_row rows (text_of t) h

row_is : (P : TypeRow → Type 0) (rows : List TypeRow) (o : Option Tree) → AllByRecursion P rows → IfOk (row_of rows o) P
row_is P rows o h = built_row P P (λ r. built_is P r.makes r) rows o h

-- an object in which nothing is wrong
clean : (o : ObjectRow) (ms : List (List ℕ × Tree)) → AllByRecursion (λ m. IsSound m.1) ms → object_faults itself faults o ms ≡ [] → IsClean o ms
unfolding rest_faults
clean o ms h e =
    let p = both_empty (flat_map (member_faults itself faults o) ms) (rest_faults (tree_at itself ms) o) e in
    let q = both_empty (missing (tree_at itself ms) (keys o)) (misfits (tree_at itself ms) o.tests) p.1 in
    record {
      under = λ k. found_is (λ name. IsRight (kind_under o name)) (text k) ms (members_right o ms p.0 h);
      none_absent = none_absent (tree_at itself ms) (keys o) q.0;
      fits = q.1;
    }

by_row : (r : Result TypeRow Code) (ms : List (List ℕ × Tree)) → IfOk r IsMadeRight → AllByRecursion (λ m. IsSound m.1) ms
    → row_faults itself faults r ms ≡ [] → AllByRecursion IsAllowed (preorder (node_by_row (tree_at itself ms) (part_at itself made ms) r))
by_row (Err code) ms is h e = cc
by_row (Ok row) ms is h e = is ms (clean row.object ms h e)

members_are : (ms : List (List ℕ × Tree)) → AllByRecursion (λ m. IsSound m.1) ms → typed_faults itself faults node_types (Some ms) ≡ []
    → AllByRecursion IsAllowed (preorder (node_in itself made ms))
members_are ms h e =
    by_row (row_of node_types (tree_at itself ms key.Type)) ms (row_is IsMadeRight node_types (tree_at itself ms key.Type) rows_are) h e

items_are : (i : ℕ) (ts : List Tree) → AllByRecursion IsSound ts → item_faults itself faults kind.Schema i ts ≡ []
    → AllByRecursion IsAllowed (flat_map preorder (map (λ t. made t kind.Schema) ts))
items_are i [] h e = tt
items_are i (t ∷ ts) h e =
    let p = both_empty _ (item_faults itself faults kind.Schema (i + 1) ts) e in
    each_append IsAllowed (preorder (made t kind.Schema)) (flat_map preorder (map (λ u. made u kind.Schema) ts))
    (h.0 kind.Schema (none_under (Index i) (faults t kind.Schema) p.0))
    (items_are (i + 1) ts h.1 p.1)

-- a field, and an object of fields
field_by_row : (r : Result TypeRow Code) (ms : List (List ℕ × Tree)) → IfOk r IsFieldRight → AllByRecursion (λ m. IsSound m.1) ms
    → row_faults itself faults r ms ≡ [] → IsAllowedField (field_in itself made ms)
field_by_row (Err code) ms is h e = cc
field_by_row (Ok row) ms is h e = is ms (clean row.object ms h e)

field_members_are : (k : FieldsKind) (ms : List (List ℕ × Tree)) → AllByRecursion (λ m. IsSound m.1) ms → typed_faults itself faults (field_types k) (Some ms) ≡ []
    → IsAllowedField (field_in itself made ms)
field_members_are k ms h e =
    field_by_row (row_of (field_types k) (tree_at itself ms key.Type)) ms (row_is IsFieldRight (field_types k) (tree_at itself ms key.Type) (field_rows_are k)) h e

each_are : (k : FieldsKind) (ms : List (List ℕ × Tree)) → AllByRecursion (λ m. IsSound m.1) ms → each_faults itself faults (kind.Field k) ms ≡ []
    → AllByRecursion (λ (f : List ℕ × Field). IsAllowedField f.1) (fields_in itself made k ms)
each_are k [] h e = tt
each_are k (m ∷ ms) h e =
    let p = both_empty _ (each_faults itself faults (kind.Field k) ms) e in
    ((h.0) (kind.Field k) (none_under (Name m.0) (faults m.1 (kind.Field k)) p.0), each_are k ms h.1 p.1)

names_kept : (k : Kind) (ms : List (List ℕ × Tree)) → names (named_in itself made k ms) ≡ names ms
names_kept k [] = refl
names_kept k (m ∷ ms) = ap (λ ns. m.0 ∷ ns) (names_kept k ms)

-- choices of a union
each_choice : (i : ℕ) (ts : List Tree) → AllByRecursion IsSound ts → item_faults itself faults kind.Choice i ts ≡ []
    → AllByRecursion (λ c. AllByRecursion IsAllowed (preorder c.schema)) (choices_in itself made ts)
each_choice i [] h e = tt
each_choice i (t ∷ ts) h e =
    let p = both_empty _ (item_faults itself faults kind.Choice (i + 1) ts) e in
    ((h.0) kind.Choice (none_under (Index i) (faults t kind.Choice) p.0), each_choice (i + 1) ts h.1 p.1)

choices_are : (ts : List Tree) → AllByRecursion IsSound ts → choices_faults itself faults (Some ts) ≡ [] → AreAllowedChoices (choices_in itself made ts)
choices_are [] h e = cc
choices_are (t ∷ ts) h e = record { some = omega arith; each = each_choice 0 (t ∷ ts) h e }

-- a schema with a label
right_label : (b : Bool) (rs : List Refusal) (r : Refusal) → (if b then rs else r ∷ []) ≡ [] → rs ≡ []
right_label true rs r e = e
right_label false rs r e = cc

pair_is : (ts : List Tree) → AllByRecursion IsSound ts → pair_faults itself faults ts ≡ [] → AllByRecursion IsAllowed (preorder (schema_in itself made ts))
pair_is [] h e = cc
pair_is (t ∷ []) h e = cc
pair_is (t ∷ u ∷ []) h e =
    (h.0) kind.Schema (none_under (Index 0) (faults t kind.Schema) (right_label (is_some (text_of u)) (all_under (Index 0) (faults t kind.Schema)) _ e))
pair_is (t ∷ u ∷ w ∷ ts) h e = cc

-- choices under tags
each_tagged : (ms : List (List ℕ × Tree)) → AllByRecursion (λ m. IsSound m.1) ms → each_faults itself faults kind.Schema ms ≡ []
    → AllByRecursion (λ (c : List ℕ × Node). AllByRecursion IsAllowed (preorder c.1)) (named_in itself made kind.Schema ms)
each_tagged [] h e = tt
each_tagged (m ∷ ms) h e =
    let p = both_empty _ (each_faults itself faults kind.Schema ms) e in
    ((h.0) kind.Schema (none_under (Name m.0) (faults m.1 kind.Schema) p.0), each_tagged ms h.1 p.1)

tagged_are : (ms : List (List ℕ × Tree)) → HasDistinctNames ms → AllByRecursion (λ m. IsSound m.1) ms → tagged_faults itself faults (Some ms) ≡ []
    → AreAllowedTagged (named_in itself made kind.Schema ms)
tagged_are [] distinct h e = cc
tagged_are (m ∷ ms) distinct h e = record {
  some = omega arith;
  names = subst (IsDistinct bytes_eq) (sym (names_kept kind.Schema (m ∷ ms))) distinct;
  each = each_tagged (m ∷ ms) h e;
}

-- a schema that has a name
named_by_row : (r : Result TypeRow Code) (ms : List (List ℕ × Tree)) → IfOk r IsMadeNamed → AllByRecursion (λ m. IsSound m.1) ms
    → row_faults itself faults r ms ≡ [] → is_some (find (text key.Ref) ms) ≡ true → IsNamed (node_by_row (tree_at itself ms) (part_at itself made ms) r)
named_by_row (Err code) ms is h e there = cc
named_by_row (Ok row) ms is h e there = is ms (clean row.object ms h e) there

name_there : (o : Option Tree) → unnamed_faults (option_map itself o) ≡ [] → is_some o ≡ true
name_there None e = cc
name_there (Some t) e = refl

definition_is : (ms : List (List ℕ × Tree)) → AllByRecursion (λ m. IsSound m.1) ms → definition_faults itself faults (Some ms) ≡ []
    → IsNamed (node_in itself made ms) × AllByRecursion IsAllowed (preorder (node_in itself made ms))
definition_is ms h e =
    let p = both_empty (typed_faults itself faults node_types (Some ms)) (unnamed_faults (tree_at itself ms key.Ref)) e in
    let is = built_row (λ row. TakesName row.makes row.object) IsMadeNamed row_named node_types (tree_at itself ms key.Type) rows_take_names in (
      named_by_row (row_of node_types (tree_at itself ms key.Type)) ms is h p.0 (name_there (find (text key.Ref) ms) p.1),
      members_are ms h p.0,
    )

definitions_are : (i : ℕ) (ts : List Tree) → AllByRecursion IsSound ts → item_faults itself faults kind.Definition i ts ≡ []
    → AreAllowedDefinitions (definitions_in itself made ts)
definitions_are i [] h e = record { named = tt; each = tt }
definitions_are i (t ∷ ts) h e =
    let p = both_empty _ (item_faults itself faults kind.Definition (i + 1) ts) e in
    let first = (h.0) kind.Definition (none_under (Index i) (faults t kind.Definition) p.0) in
    let more = definitions_are (i + 1) ts h.1 p.1 in
    record {
      named = (first.0, more.named);
      each = each_append IsAllowed (preorder (made t kind.Definition)) (flat_map preorder (definitions_in itself made ts)) first.1 more.each;
    }

-- of each tree right inside
abbrev AreInside : Tree-F Tree → Type 0
AreInside Tree-F.Null = Unit {0}
AreInside (Tree-F.Bool b) = Unit {0}
AreInside (Tree-F.Num lexeme) = Unit {0}
AreInside (Tree-F.Str text) = Unit {0}
AreInside (Tree-F.Array ts) = AllByRecursion IsSound ts
AreInside (Tree-F.Object d) = AllByRecursion (λ m. IsSound m.1) d.members

items_held : (es : List ((t : Tree) × IsSound t)) → AllByRecursion IsSound (map (λ e. e.0) es)
items_held [] = tt
items_held (e ∷ es) = (e.1, items_held es)

members_held : (ms : List (List ℕ × ((t : Tree) × IsSound t))) → AllByRecursion (λ (m : List ℕ × Tree). IsSound m.1) (map (λ m. (m.0, m.1.0)) ms)
members_held [] = tt
members_held (m ∷ ms) = (m.1.1, members_held ms)

held : (y : Tree-F ((t : Tree) × IsSound t)) → AreInside (map-Tree ((t : Tree) × IsSound t) Tree (λ e. e.0) y)
held Tree-F.Null = tt
held (Tree-F.Bool b) = tt
held (Tree-F.Num lexeme) = tt
held (Tree-F.Str text) = tt
held (Tree-F.Array ts) = items_held ts
held (Tree-F.Object d) = members_held d.members

as_schema : (x : Tree-F Tree) → AreInside x → typed_faults itself faults node_types (members_at x) ≡ []
    → AllByRecursion IsAllowed (preorder (node_in itself made (or_empty (members_at x))))
as_schema Tree-F.Null h e = cc
as_schema (Tree-F.Bool b) h e = cc
as_schema (Tree-F.Num lexeme) h e = cc
as_schema (Tree-F.Str text) h e = cc
as_schema (Tree-F.Array ts) h e = cc
as_schema (Tree-F.Object d) h e = members_are d.members h e

as_schemas : (x : Tree-F Tree) → AreInside x → list_faults itself faults kind.Schema (items_at x) ≡ []
    → AllByRecursion IsAllowed (flat_map preorder (nodes_in itself made (or_empty (items_at x))))
as_schemas Tree-F.Null h e = tt
as_schemas (Tree-F.Bool b) h e = tt
as_schemas (Tree-F.Num lexeme) h e = tt
as_schemas (Tree-F.Str text) h e = tt
as_schemas (Tree-F.Array ts) h e = items_are 0 ts h e
as_schemas (Tree-F.Object d) h e = tt

as_choices : (x : Tree-F Tree) → AreInside x → choices_faults itself faults (items_at x) ≡ [] → AreAllowedChoices (choices_in itself made (or_empty (items_at x)))
as_choices Tree-F.Null h e = cc
as_choices (Tree-F.Bool b) h e = cc
as_choices (Tree-F.Num lexeme) h e = cc
as_choices (Tree-F.Str text) h e = cc
as_choices (Tree-F.Array ts) h e = choices_are ts h e
as_choices (Tree-F.Object d) h e = cc

as_choice : (x : Tree-F Tree) → AreInside x → choice_faults itself faults x ≡ [] → AllByRecursion IsAllowed (preorder (choice_schema itself made x))
as_choice Tree-F.Null h e = cc
as_choice (Tree-F.Bool b) h e = cc
as_choice (Tree-F.Num lexeme) h e = cc
as_choice (Tree-F.Str text) h e = cc
as_choice (Tree-F.Array ts) h e = pair_is ts h e
as_choice (Tree-F.Object d) h e = members_are d.members h e

as_tagged : (x : Tree-F Tree) → AreInside x → tagged_faults itself faults (members_at x) ≡ []
    → AreAllowedTagged (named_in itself made kind.Schema (or_empty (members_at x)))
as_tagged Tree-F.Null h e = cc
as_tagged (Tree-F.Bool b) h e = cc
as_tagged (Tree-F.Num lexeme) h e = cc
as_tagged (Tree-F.Str text) h e = cc
as_tagged (Tree-F.Array ts) h e = cc
as_tagged (Tree-F.Object d) h e = tagged_are d.members d.distinct h e

as_definitions : (x : Tree-F Tree) → AreInside x → list_faults itself faults kind.Definition (items_at x) ≡ []
    → AreAllowedDefinitions (definitions_in itself made (or_empty (items_at x)))
as_definitions Tree-F.Null h e = cc
as_definitions (Tree-F.Bool b) h e = cc
as_definitions (Tree-F.Num lexeme) h e = cc
as_definitions (Tree-F.Str text) h e = cc
as_definitions (Tree-F.Array ts) h e = definitions_are 0 ts h e
as_definitions (Tree-F.Object d) h e = cc

as_definition : (x : Tree-F Tree) → AreInside x → definition_faults itself faults (members_at x) ≡ []
    → IsNamed (node_in itself made (or_empty (members_at x))) × AllByRecursion IsAllowed (preorder (node_in itself made (or_empty (members_at x))))
as_definition Tree-F.Null h e = cc
as_definition (Tree-F.Bool b) h e = cc
as_definition (Tree-F.Num lexeme) h e = cc
as_definition (Tree-F.Str text) h e = cc
as_definition (Tree-F.Array ts) h e = cc
as_definition (Tree-F.Object d) h e = definition_is d.members h e

as_fields : (k : FieldsKind) (x : Tree-F Tree) → AreInside x → named_faults itself faults (kind.Field k) (members_at x) ≡ []
    → AreAllowedFields (fields_in itself made k (or_empty (members_at x)))
as_fields k Tree-F.Null h e = no_fields
as_fields k (Tree-F.Bool b) h e = no_fields
as_fields k (Tree-F.Num lexeme) h e = no_fields
as_fields k (Tree-F.Str text) h e = no_fields
as_fields k (Tree-F.Array ts) h e = no_fields
as_fields k (Tree-F.Object d) h e = record {
  names = subst (IsDistinct bytes_eq) (sym (names_kept (kind.Field k) d.members)) d.distinct;
  each = each_are k d.members h e;
}

as_field : (k : FieldsKind) (x : Tree-F Tree) → AreInside x → typed_faults itself faults (field_types k) (members_at x) ≡ []
    → IsAllowedField (field_in itself made (or_empty (members_at x)))
as_field k Tree-F.Null h e = cc
as_field k (Tree-F.Bool b) h e = cc
as_field k (Tree-F.Num lexeme) h e = cc
as_field k (Tree-F.Str text) h e = cc
as_field k (Tree-F.Array ts) h e = cc
as_field k (Tree-F.Object d) h e = field_members_are k d.members h e

as_config : (x : Tree-F Tree) → AreInside x → untyped_faults itself faults config (members_at x) ≡ []
    → AreSettings (settings (tree_at itself (or_empty (members_at x))))
as_config Tree-F.Null h e = cc
as_config (Tree-F.Bool b) h e = cc
as_config (Tree-F.Num lexeme) h e = cc
as_config (Tree-F.Str text) h e = cc
as_config (Tree-F.Array ts) h e = cc
as_config (Tree-F.Object d) h e = settings_are d.members (clean config d.members h e)

level_is : (x : Tree-F Tree) → AreInside x → (k : Kind) → level_faults itself faults k x ≡ [] → AreAllowedAs k (level_made itself made x k)
level_is x h (kind.Value v) e = tt
level_is x h kind.Schema e = as_schema x h e
level_is x h kind.Schemas e = as_schemas x h e
level_is x h kind.Choices e = as_choices x h e
level_is x h kind.Choice e = as_choice x h e
level_is x h kind.Tagged e = as_tagged x h e
level_is x h kind.Definitions e = as_definitions x h e
level_is x h kind.Definition e = as_definition x h e
level_is x h (kind.Fields k) e = as_fields k x h e
level_is x h (kind.Field k) e = as_field k x h e
level_is x h kind.Config e = as_config x h e
level_is x h kind.NotBuilt e = tt

by_level : (t : Tree) → AreInside (out-Tree t) → IsSound t
by_level t h k e = subst (AreAllowedAs k) (sym (made_opens t k)) (level_is (out-Tree t) h k (sym (faults_open t k) ∙ e))

sound : (t : Tree) → IsSound t
sound = ind-Tree IsSound (λ x y is. by_level (roll-Tree x) (subst AreInside (is ∙ sym (out-roll-Tree x)) (held y)))

few_enough : (b : Bool) (n root : Node) (fault : NoSchema) → (if b then Ok n else Err fault) ≡ Ok root → n ≡ root
few_enough true n root fault e = cc
few_enough false n root fault e = cc

nothing_wrong : (rs : List Refusal) (n root : Node) → schema_by (first rs) n ≡ Ok root → (rs ≡ []) × (n ≡ root)
nothing_wrong [] n root e = (refl, few_enough _ n root _ e)
nothing_wrong (r ∷ rs) n root e = cc

-- a tree with which nothing is wrong
pub right_is_allowed : (t : Tree) (n : Node) → faults t kind.Schema ≡ [] → n ≡ made t kind.Schema → AreAllowed n
unfolding AreAllowed
right_is_allowed t n e is = subst (λ m. AllByRecursion IsAllowed (preorder m)) (sym is) (sound t kind.Schema e)

pub read_is_allowed : (t : Tree) (root : Node) → schema_of t ≡ Ok root → AreAllowed root
unfolding schema_of
read_is_allowed t root e = let p = nothing_wrong (faults t kind.Schema) (made t kind.Schema) root e in right_is_allowed t root p.0 (sym p.1)
