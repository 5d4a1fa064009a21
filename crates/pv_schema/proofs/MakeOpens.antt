-- What a tree is made to be, by what the trees right inside are.
use Rattle.std.proofs.Common.{◌≡◌, ℕ, List, map, refl, ap, sym, ◌∙◌, Option, Some, None, Bool, [], ◌∷◌, ◌⊎◌, inl, inr}
use Rattle.std.proofs.Math.Path.{fun_ext}
use Rattle.std.proofs.lemmas.Simd.{map-map}
use Rattle.pv_tree.specs.Parts.{items_at, members_at}
use Rattle.pv_tree.specs.Names.{Distinct}
use Rattle.pv_tree.specs.declared.Tree.{Tree, out-Tree, out-roll-Tree, rec-roll-Tree, roll-out-Tree, map-Tree}
use Rattle.pv_tree.specs.declared.Tree.TheVariants as tree
use Rattle.pv_tree.specs.declared.Tree.TheVariants.{rolls-Null, rolls-Bool, rolls-Num, rolls-Str, rolls-Object, rolls-Array}
use Rattle.pv_tree.specs.declared.Tree.TheOpen.{Tree-F}
use Rattle.pv_tree.specs.declared.Tree.TheViews.{roll-Tree}
use Rattle.pv_node.specs.declared.Node.{Node}
use Rattle.pv_node.specs.Absent.{any, or_any}
use Rattle.std.specs.Option.{option_map}
use Rattle.pv_rules.specs.declared.FieldsKind.{FieldsKind}
use Rattle.pv_schema_check.specs.Find.{find, itself, tree_at}
use Rattle.pv_schema_table.specs.Keys.{text}
use Rattle.pv_schema_table.specs.Table.{node_types}
use Rattle.pv_schema_check.specs.ObjectTypes.{row_of}
use Rattle.pv_schema.specs.Making.{MadeAs, Made, all_made, make_step, made, level_made, node_by_row, node_in, nodes_in, named_in, choices_in, label_in, schema_in, choice_schema, choice_in, definitions_in, fields_in, field_in, field, part_at}
use Rattle.pv_schema.specs.Choices.{Choice, choice_schemas, tagged_schemas}
use Rattle.pv_schema.specs.Fields.{field_schemas}
use Rattle.pv_schema.specs.Configs.{settings}
use Rattle.pv_schema.specs.Written.{or_empty}
use Rattle.pv_schema_table.specs.declared.Key.{Key}
use Rattle.pv_schema_table.specs.declared.Key.TheVariants as key
use Rattle.pv_schema_table.specs.declared.Kind.{Kind}
use Rattle.pv_schema_table.specs.declared.Kind.TheVariants as kind
use Rattle.pv_schema_check.proofs.CheckOpens.{mapped, found_mapped, at_mapped}

module _ {X : Type 0} (v : X → Tree) (f : Tree → (k : Kind) → MadeAs k) where
  part_mapped : (ms : List (List ℕ × X)) → part_at v (λ x. f (v x)) ms ≡ part_at itself f (mapped v ms)
  part_mapped ms = fun_ext (λ k. fun_ext (λ key. found_mapped v (λ t. f t k) (text key) ms))

  object_mapped : (ms : List (List ℕ × X)) → node_in v (λ x. f (v x)) ms ≡ node_in itself f (mapped v ms)
  object_mapped ms =
      ap (λ at. node_by_row at (part_at v (λ x. f (v x)) ms) (row_of node_types (at key.Type))) (at_mapped v ms)
      ∙ ap (λ part. node_by_row (tree_at itself (mapped v ms)) part (row_of node_types (tree_at itself (mapped v ms) key.Type))) (part_mapped ms)

  field_mapped : (ms : List (List ℕ × X)) → field_in v (λ x. f (v x)) ms ≡ field_in itself f (mapped v ms)
  field_mapped ms =
      ap (λ at. field at (part_at v (λ x. f (v x)) ms)) (at_mapped v ms)
      ∙ ap (λ part. field (tree_at itself (mapped v ms)) part) (part_mapped ms)

  named_mapped : (k : Kind) (ms : List (List ℕ × X)) → named_in v (λ x. f (v x)) k ms ≡ named_in itself f k (mapped v ms)
  named_mapped k ms = sym (map-map (λ (m : List ℕ × Tree). (m.0, f m.1 k)) (λ m. (m.0, v m.1)) ms)

  fields_mapped : (k : FieldsKind) (ms : List (List ℕ × X)) → fields_in v (λ x. f (v x)) k ms ≡ fields_in itself f k (mapped v ms)
  fields_mapped k ms = named_mapped (kind.Field k) ms

  label_mapped : (xs : List X) → label_in v (λ x. f (v x)) (Some xs) ≡ label_in itself f (Some (map v xs))
  label_mapped [] = refl
  label_mapped (x ∷ []) = refl
  label_mapped (x ∷ y ∷ []) = refl
  label_mapped (x ∷ y ∷ z ∷ zs) = refl

  schema_mapped : (xs : List X) → schema_in v (λ x. f (v x)) xs ≡ schema_in itself f (map v xs)
  schema_mapped [] = refl
  schema_mapped (x ∷ []) = refl
  schema_mapped (x ∷ y ∷ []) = refl
  schema_mapped (x ∷ y ∷ z ∷ zs) = refl

-- a choice of a label and a schema
abbrev choice_with : Option (List ℕ) → Node → Choice
choice_with label n = record { label = label; schema = n }

-- the members inside a level, and its items
members_natural : {X : Type 0} (v : X → Tree) (x : Tree-F X) → or_empty (members_at (map-Tree X Tree v x)) ≡ mapped v (or_empty (members_at x))
members_natural v Tree-F.Null = refl
members_natural v (Tree-F.Bool b) = refl
members_natural v (Tree-F.Num l) = refl
members_natural v (Tree-F.Str s) = refl
members_natural v (Tree-F.Array xs) = refl
members_natural v (Tree-F.Object d) = refl

items_natural : {X : Type 0} (v : X → Tree) (x : Tree-F X) → or_empty (items_at (map-Tree X Tree v x)) ≡ map v (or_empty (items_at x))
items_natural v Tree-F.Null = refl
items_natural v (Tree-F.Bool b) = refl
items_natural v (Tree-F.Num l) = refl
items_natural v (Tree-F.Str s) = refl
items_natural v (Tree-F.Array xs) = refl
items_natural v (Tree-F.Object d) = refl

module _ {X : Type 0} (v : X → Tree) (f : Tree → (k : Kind) → MadeAs k) where
  label_natural : (x : Tree-F X) → label_in v (λ y. f (v y)) (items_at x) ≡ label_in itself f (items_at (map-Tree X Tree v x))
  label_natural Tree-F.Null = refl
  label_natural (Tree-F.Bool b) = refl
  label_natural (Tree-F.Num l) = refl
  label_natural (Tree-F.Str s) = refl
  label_natural (Tree-F.Array xs) = label_mapped v f xs
  label_natural (Tree-F.Object d) = refl

  schema_natural : (x : Tree-F X) → choice_schema v (λ y. f (v y)) x ≡ choice_schema itself f (map-Tree X Tree v x)
  schema_natural Tree-F.Null = refl
  schema_natural (Tree-F.Bool b) = refl
  schema_natural (Tree-F.Num l) = refl
  schema_natural (Tree-F.Str s) = refl
  schema_natural (Tree-F.Array xs) = schema_mapped v f xs
  schema_natural (Tree-F.Object d) = object_mapped v f d.members

  choice_natural : (x : Tree-F X) → choice_in v (λ y. f (v y)) x ≡ choice_in itself f (map-Tree X Tree v x)
  choice_natural x =
      ap (λ label. choice_with label (choice_schema v (λ y. f (v y)) x)) (label_natural x)
      ∙ ap (choice_with (label_in itself f (items_at (map-Tree X Tree v x)))) (schema_natural x)

  level_natural : (x : Tree-F X) (k : Kind) → level_made v (λ y. f (v y)) x k ≡ level_made itself f (map-Tree X Tree v x) k
  level_natural x (kind.Value w) = refl
  level_natural x kind.Schema = object_mapped v f (or_empty (members_at x)) ∙ ap (node_in itself f) (sym (members_natural v x))
  level_natural x kind.Schemas =
      sym (map-map (λ t. f t kind.Schema) v (or_empty (items_at x))) ∙ ap (nodes_in itself f) (sym (items_natural v x))
  level_natural x kind.Choices =
      sym (map-map (λ t. f t kind.Choice) v (or_empty (items_at x))) ∙ ap (choices_in itself f) (sym (items_natural v x))
  level_natural x kind.Choice = choice_natural x
  level_natural x kind.Tagged =
      named_mapped v f kind.Schema (or_empty (members_at x)) ∙ ap (named_in itself f kind.Schema) (sym (members_natural v x))
  level_natural x kind.Definitions =
      sym (map-map (λ t. f t kind.Definition) v (or_empty (items_at x))) ∙ ap (definitions_in itself f) (sym (items_natural v x))
  level_natural x kind.Definition = object_mapped v f (or_empty (members_at x)) ∙ ap (node_in itself f) (sym (members_natural v x))
  level_natural x (kind.Fields k) = fields_mapped v f k (or_empty (members_at x)) ∙ ap (fields_in itself f k) (sym (members_natural v x))
  level_natural x (kind.Field k) = field_mapped v f (or_empty (members_at x)) ∙ ap (field_in itself f) (sym (members_natural v x))
  level_natural x kind.Config =
      ap settings (at_mapped v (or_empty (members_at x))) ∙ ap (λ ms. settings (tree_at itself ms)) (sym (members_natural v x))
  level_natural x kind.NotBuilt = refl

natural : (X : Type 0) (v : X → Tree) (f : Tree → Made) (x : Tree-F X)
    → make_step X v (λ p. f (v p)) x ≡ make_step Tree (λ y. y) f (map-Tree X Tree v x)
natural X v f x = ap (λ g. record { as_kind = g }) (fun_ext (λ k. level_natural v (λ t. (f t).as_kind) x k))

all_made_opens : (t : Tree) → all_made t ≡ make_step Tree (λ y. y) all_made (out-Tree t)
all_made_opens t = ap all_made (sym (roll-out-Tree t)) ∙ rec-roll-Tree Made make_step natural (out-Tree t)

-- what a tree is made to be is what its level is made to be
pub made_opens : (t : Tree) (k : Kind) → made t k ≡ level_made itself made (out-Tree t) k
unfolding made
made_opens t k = ap (λ m. m.as_kind k) (all_made_opens t)

-- as each kind
pub node_opens : (t : Tree) → made t kind.Schema ≡ node_in itself made (or_empty (members_at (out-Tree t)))
node_opens t = made_opens t kind.Schema

pub nodes_open : (t : Tree) → made t kind.Schemas ≡ nodes_in itself made (or_empty (items_at (out-Tree t)))
nodes_open t = made_opens t kind.Schemas

pub fields_open : (t : Tree) (k : FieldsKind) → made t (kind.Fields k) ≡ fields_in itself made k (or_empty (members_at (out-Tree t)))
fields_open t k = made_opens t (kind.Fields k)

pub field_opens : (t : Tree) (k : FieldsKind) → made t (kind.Field k) ≡ field_in itself made (or_empty (members_at (out-Tree t)))
field_opens t k = made_opens t (kind.Field k)

pub config_opens : (t : Tree) → made t kind.Config ≡ settings (tree_at itself (or_empty (members_at (out-Tree t))))
config_opens t = made_opens t kind.Config

-- the schema of a field, and those of several
pub inner_opens : (t : Tree) (k : FieldsKind)
    → (made t (kind.Field k)).schema ≡ or_any (part_at itself made (or_empty (members_at (out-Tree t))) kind.Schema key.Schema)
inner_opens t k = ap (λ f. f.schema) (field_opens t k)

pub schemas_open : (t : Tree) (k : FieldsKind)
    → field_schemas (made t (kind.Fields k)) ≡ field_schemas (fields_in itself made k (or_empty (members_at (out-Tree t))))
schemas_open t k = ap field_schemas (fields_open t k)

-- the choices of a union, and of a tagged union
pub choices_open : (t : Tree) → made t kind.Choices ≡ choices_in itself made (or_empty (items_at (out-Tree t)))
choices_open t = made_opens t kind.Choices

pub tagged_opens : (t : Tree) → made t kind.Tagged ≡ named_in itself made kind.Schema (or_empty (members_at (out-Tree t)))
tagged_opens t = made_opens t kind.Tagged

pub label_opens : (t : Tree) → (made t kind.Choice).label ≡ label_in itself made (items_at (out-Tree t))
label_opens t = ap (λ c. c.label) (made_opens t kind.Choice)

choice_opens : (t : Tree) → (made t kind.Choice).schema ≡ choice_schema itself made (out-Tree t)
choice_opens t = ap (λ c. c.schema) (made_opens t kind.Choice)

-- a definition is made as any schema is
definition_opens : (t : Tree) → made t kind.Schema ≡ made t kind.Definition
definition_opens t = made_opens t kind.Schema ∙ sym (made_opens t kind.Definition)

definitions_same : (ts : List Tree) → nodes_in itself made ts ≡ definitions_in itself made ts
definitions_same [] = refl
definitions_same (t ∷ ts) =
    ap (λ n. n ∷ nodes_in itself made ts) (definition_opens t) ∙ ap (λ ns. made t kind.Definition ∷ ns) (definitions_same ts)

definitions_open : (t : Tree) → made t kind.Schemas ≡ made t kind.Definitions
definitions_open t = nodes_open t ∙ definitions_same (or_empty (items_at (out-Tree t))) ∙ sym (made_opens t kind.Definitions)

definitions_there : (o : Option Tree) → or_empty (option_map (λ t. made t kind.Schemas) o) ≡ or_empty (option_map (λ t. made t kind.Definitions) o)
definitions_there None = refl
definitions_there (Some t) = definitions_open t

pub definitions_made : (ns : List Node) (ms : List (List ℕ × Tree)) → ns ≡ or_empty (part_at itself made ms kind.Schemas key.Definitions)
    → ns ≡ or_empty (part_at itself made ms kind.Definitions key.Definitions)
definitions_made ns ms e = e ∙ definitions_there (find (text key.Definitions) ms)

-- what stands under a key, by the tree there
found_as : (k : Kind) (o : Option Tree) → option_map (λ t. made t k) o ≡ option_map (λ t. made t k) (option_map itself o)
found_as k None = refl
found_as k (Some t) = refl

pub part_found : (ms : List (List ℕ × Tree)) (k : Kind) (a : Key) → part_at itself made ms k a ≡ option_map (λ t. made t k) (tree_at itself ms a)
part_found ms k a = found_as k (find (text a) ms)

object_opened : (d : Distinct Tree) → out-Tree (tree.Object d) ≡ Tree-F.Object d
object_opened d = ap out-Tree (sym (rolls-Object d)) ∙ out-roll-Tree (Tree-F.Object d)

array_opened : (ts : List Tree) → out-Tree (tree.Array ts) ≡ Tree-F.Array ts
array_opened ts = ap out-Tree (sym (rolls-Array ts)) ∙ out-roll-Tree (Tree-F.Array ts)

members_opened : (t : Tree) (d : Distinct Tree) → t ≡ tree.Object d → or_empty (members_at (out-Tree t)) ≡ d.members
members_opened t d e = ap (λ x. or_empty (members_at x)) (ap out-Tree e ∙ object_opened d)

pub object_made : (n : Node) (t : Tree) (d : Distinct Tree) → t ≡ tree.Object d → n ≡ node_in itself made d.members → n ≡ made t kind.Schema
object_made n t d e g = g ∙ sym (node_opens t ∙ ap (node_in itself made) (members_opened t d e))

pub fields_made : (ns : List Node) (t : Tree) (k : FieldsKind) (d : Distinct Tree) → t ≡ tree.Object d
    → ns ≡ field_schemas (fields_in itself made k d.members) → ns ≡ field_schemas (made t (kind.Fields k))
fields_made ns t k d e g = g ∙ sym (schemas_open t k ∙ ap (λ ms. field_schemas (fields_in itself made k ms)) (members_opened t d e))

pub field_made : (n : Node) (t : Tree) (k : FieldsKind) (d : Distinct Tree) → t ≡ tree.Object d
    → n ≡ or_any (part_at itself made d.members kind.Schema key.Schema) → n ≡ (made t (kind.Field k)).schema
field_made n t k d e g = g ∙ sym (inner_opens t k ∙ ap (λ ms. or_any (part_at itself made ms kind.Schema key.Schema)) (members_opened t d e))

pub array_made : (ns : List Node) (t : Tree) (ts all : List Tree) → t ≡ tree.Array ts → all ≡ ts → ns ≡ map (λ u. made u kind.Schema) all
    → ns ≡ made t kind.Schemas
array_made ns t ts all e f g =
    g ∙ ap (map (λ u. made u kind.Schema)) f ∙ sym (nodes_open t ∙ ap (λ x. nodes_in itself made (or_empty (items_at x))) (ap out-Tree e ∙ array_opened ts))

pub choices_made : (ns : List Node) (t : Tree) (ts all : List Tree) → t ≡ tree.Array ts → all ≡ ts → ns ≡ choice_schemas (choices_in itself made all)
    → ns ≡ choice_schemas (made t kind.Choices)
choices_made ns t ts all e f g =
    g ∙ ap (λ us. choice_schemas (choices_in itself made us)) f
    ∙ sym (ap choice_schemas (choices_open t ∙ ap (λ x. choices_in itself made (or_empty (items_at x))) (ap out-Tree e ∙ array_opened ts)))

pub tagged_made : (ns : List Node) (t : Tree) (d : Distinct Tree) → t ≡ tree.Object d → ns ≡ tagged_schemas (named_in itself made kind.Schema d.members)
    → ns ≡ tagged_schemas (made t kind.Tagged)
tagged_made ns t d e g = g ∙ sym (ap tagged_schemas (tagged_opens t ∙ ap (named_in itself made kind.Schema) (members_opened t d e)))

-- a choice that is an object, and one that is a list
pub plain_choice : (n : Node) (t : Tree) (d : Distinct Tree) → t ≡ tree.Object d → n ≡ node_in itself made d.members → n ≡ (made t kind.Choice).schema
plain_choice n t d e g = g ∙ sym (choice_opens t ∙ ap (choice_schema itself made) (ap out-Tree e ∙ object_opened d))

pub labelled_choice : (n : Node) (t : Tree) (ts all : List Tree) → t ≡ tree.Array ts → all ≡ ts → n ≡ schema_in itself made all → n ≡ (made t kind.Choice).schema
labelled_choice n t ts all e f g =
    g ∙ ap (schema_in itself made) f ∙ sym (choice_opens t ∙ ap (choice_schema itself made) (ap out-Tree e ∙ array_opened ts))

-- a tree that is neither
no_choice_at : (t u : Tree) (x : Tree-F Tree) → t ≡ u → roll-Tree x ≡ u → choice_schema itself made x ≡ any → (made t kind.Choice).schema ≡ any
no_choice_at t u x e is none =
    choice_opens t ∙ ap (λ w. choice_schema itself made (out-Tree w)) (e ∙ sym is) ∙ ap (choice_schema itself made) (out-roll-Tree x) ∙ none

abbrev pub HasNoParts : Tree → Type 0
HasNoParts t =
    (t ≡ tree.Null)
    ⊎ (((b : Bool) × (t ≡ tree.Bool b)) ⊎ (((l : List ℕ) × (t ≡ tree.Num l)) ⊎ ((s : List ℕ) × (t ≡ tree.Str s))))

absent_choice : (t : Tree) → HasNoParts t → (made t kind.Choice).schema ≡ any
absent_choice t (inl e) = no_choice_at t _ Tree-F.Null e rolls-Null refl
absent_choice t (inr (inl (b, e))) = no_choice_at t _ (Tree-F.Bool b) e (rolls-Bool b) refl
absent_choice t (inr (inr (inl (l, e)))) = no_choice_at t _ (Tree-F.Num l) e (rolls-Num l) refl
absent_choice t (inr (inr (inr (s, e)))) = no_choice_at t _ (Tree-F.Str s) e (rolls-Str s) refl

pub no_choice : (n : Node) (t : Tree) → HasNoParts t → n ≡ any → n ≡ (made t kind.Choice).schema
no_choice n t is e = e ∙ sym (absent_choice t is)

-- a tree that is no object
no_members : (t u : Tree) (x : Tree-F Tree) → t ≡ u → roll-Tree x ≡ u → members_at x ≡ None → or_empty (members_at (out-Tree t)) ≡ []
no_members t u x e is none =
    ap (λ w. or_empty (members_at (out-Tree w))) (e ∙ sym is) ∙ ap (λ y. or_empty (members_at y)) (out-roll-Tree x) ∙ ap or_empty none

abbrev pub IsNoObject : Tree → Type 0
IsNoObject t =
    (t ≡ tree.Null)
    ⊎ (((b : Bool) × (t ≡ tree.Bool b)) ⊎ (((l : List ℕ) × (t ≡ tree.Num l)) ⊎ (((s : List ℕ) × (t ≡ tree.Str s)) ⊎ ((ts : List Tree) × (t ≡ tree.Array ts)))))

without_members : (t : Tree) → IsNoObject t → or_empty (members_at (out-Tree t)) ≡ []
without_members t (inl e) = no_members t _ Tree-F.Null e rolls-Null refl
without_members t (inr (inl (b, e))) = no_members t _ (Tree-F.Bool b) e (rolls-Bool b) refl
without_members t (inr (inr (inl (l, e)))) = no_members t _ (Tree-F.Num l) e (rolls-Num l) refl
without_members t (inr (inr (inr (inl (s, e))))) = no_members t _ (Tree-F.Str s) e (rolls-Str s) refl
without_members t (inr (inr (inr (inr (ts, e))))) = no_members t _ (Tree-F.Array ts) e (rolls-Array ts) refl

pub no_field : (n : Node) (t : Tree) (k : FieldsKind) → IsNoObject t → n ≡ any → n ≡ (made t (kind.Field k)).schema
no_field n t k is e =
    e ∙ sym (inner_opens t k ∙ ap (λ ms. or_any (part_at itself made ms kind.Schema key.Schema)) (without_members t is))
