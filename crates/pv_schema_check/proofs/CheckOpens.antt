-- What is wrong with a tree, by what is wrong with the trees right inside.
use Rattle.std.proofs.Common.{◌≡◌, ℕ, ◌+◌, if◌then◌else◌, List, [], ◌∷◌, ◌++◌, map, refl, ap, sym, ◌∙◌, Option, Some, None, Bool, true, false, Result, Ok, Err}
use Rattle.std.specs.Prelude.{bytes_eq}
use Rattle.std.proofs.Math.Path.{fun_ext}
use Rattle.std.specs.Option.{option_map}
use Rattle.std.specs.List.{flat_map}
use Rattle.pv_tree.specs.Names.{same_distinct}
use Rattle.pv_tree.specs.Parts.{items_at, members_at}
use Rattle.pv_tree.specs.declared.Step.TheVariants.{Name, Index}
use Rattle.pv_tree.specs.declared.Tree.{Tree, out-Tree, rec-roll-Tree, roll-out-Tree, map-Tree}
use Rattle.pv_tree.specs.declared.Tree.TheOpen.{Tree-F}
use Rattle.pv_tree.specs.declared.Tree.TheViews.{roll-Tree}
use Rattle.pv_schema_check.specs.Find.{find, itself, tree_at}
use Rattle.pv_schema_table.specs.Keys.{text}
use Rattle.pv_schema_table.specs.Table.{ObjectRow, TypeRow, kind_under, node_types, field_types, config}
use Rattle.pv_schema_check.specs.ObjectTypes.{row_of}
use Rattle.pv_schema_check.specs.Checking.{Checked, checked, check_step, faults, value_faults, row_faults, rest_faults, object_faults, member_faults, faults_under, typed_faults, untyped_faults, each_faults, named_faults, item_faults, list_faults, nothing_faults, pair_faults, choice_faults, choices_faults, tagged_faults, unnamed_faults, definition_faults, level_faults, all_under}
use Rattle.pv_schema_table.specs.declared.Key.TheVariants as key
use Rattle.pv_schema_check.specs.declared.fault.Code.{Code}
use Rattle.pv_schema_check.specs.declared.fault.Refusal.{Refusal}
use Rattle.pv_schema_values.specs.declared.ValueKind.{ValueKind}
use Rattle.pv_schema_table.specs.declared.Kind.{Kind}
use Rattle.pv_schema_table.specs.declared.Kind.TheVariants as kind

-- a level whose trees stand for themselves
items_same : {Y : Type 0} (ys : List Y) → map (λ y. y) ys ≡ ys
items_same [] = refl
items_same (y ∷ ys) = ap (λ zs. y ∷ zs) (items_same ys)

members_same : (ms : List (List ℕ × Tree)) → map (λ m. (m.0, itself m.1)) ms ≡ ms
members_same [] = refl
members_same (m ∷ ms) = ap (λ ns. m ∷ ns) (members_same ms)

pub level_same : (x : Tree-F Tree) → map-Tree Tree Tree itself x ≡ x
level_same Tree-F.Null = refl
level_same (Tree-F.Bool b) = refl
level_same (Tree-F.Num l) = refl
level_same (Tree-F.Str s) = refl
level_same (Tree-F.Array ts) = ap Tree-F.Array (items_same ts)
level_same (Tree-F.Object d) = ap Tree-F.Object (same_distinct _ d (members_same d.members))

module _ {X : Type 0} (v : X → Tree) where
  abbrev pub mapped : List (List ℕ × X) → List (List ℕ × Tree)
  mapped ms = map (λ m. (m.0, v m.1)) ms

  find_at : {Y : Type 0} (f : Tree → Y) (b : Bool) (x : X) (o : Option X) (p : Option Tree) → option_map (λ y. f (v y)) o ≡ option_map f p
      → option_map (λ y. f (v y)) (if b then Some x else o) ≡ option_map f (if b then Some (v x) else p)
  find_at f true x o p e = refl
  find_at f false x o p e = e

  pub found_mapped : {Y : Type 0} (f : Tree → Y) (name : List ℕ) (ms : List (List ℕ × X))
      → option_map (λ y. f (v y)) (find name ms) ≡ option_map f (find name (mapped ms))
  found_mapped f name [] = refl
  found_mapped f name (m ∷ ms) = find_at f (bytes_eq name m.0) m.1 (find name ms) (find name (mapped ms)) (found_mapped f name ms)

  pub at_mapped : (ms : List (List ℕ × X)) → tree_at v ms ≡ tree_at itself (mapped ms)
  at_mapped ms = fun_ext (λ k. found_mapped itself (text k) ms)

-- whether there is nothing inside
module _ {X : Type 0} (v : X → Tree) where
  no_items : (xs : List X) → nothing_faults (Some xs) ≡ nothing_faults (Some (map v xs))
  no_items [] = refl
  no_items (x ∷ xs) = refl

  no_members : (ms : List (List ℕ × X)) → nothing_faults (Some ms) ≡ nothing_faults (Some (mapped v ms))
  no_members [] = refl
  no_members (m ∷ ms) = refl

  no_items_natural : (x : Tree-F X) → nothing_faults (items_at x) ≡ nothing_faults (items_at (map-Tree X Tree v x))
  no_items_natural Tree-F.Null = refl
  no_items_natural (Tree-F.Bool b) = refl
  no_items_natural (Tree-F.Num l) = refl
  no_items_natural (Tree-F.Str s) = refl
  no_items_natural (Tree-F.Array xs) = no_items xs
  no_items_natural (Tree-F.Object d) = refl

  no_members_natural : (x : Tree-F X) → nothing_faults (members_at x) ≡ nothing_faults (members_at (map-Tree X Tree v x))
  no_members_natural Tree-F.Null = refl
  no_members_natural (Tree-F.Bool b) = refl
  no_members_natural (Tree-F.Num l) = refl
  no_members_natural (Tree-F.Str s) = refl
  no_members_natural (Tree-F.Array xs) = refl
  no_members_natural (Tree-F.Object d) = no_members d.members

module _ {X : Type 0} (v : X → Tree) (k : Tree → Kind → List Refusal) where
  under_mapped : (a : Option Kind) (x : X) → faults_under v (λ y. k (v y)) a x ≡ faults_under itself k a (v x)
  under_mapped None x = refl
  under_mapped (Some a) x = refl

  members_mapped : (o : ObjectRow) (ms : List (List ℕ × X))
      → flat_map (member_faults v (λ x. k (v x)) o) ms ≡ flat_map (member_faults itself k o) (mapped v ms)
  members_mapped o [] = refl
  members_mapped o (m ∷ ms) =
      ap (λ fs. all_under (Name m.0) fs ++ flat_map (member_faults v (λ x. k (v x)) o) ms) (under_mapped (kind_under o m.0) m.1)
      ∙ ap (λ more. member_faults itself k o (m.0, v m.1) ++ more) (members_mapped o ms)

  object_mapped : (o : ObjectRow) (ms : List (List ℕ × X)) → object_faults v (λ x. k (v x)) o ms ≡ object_faults itself k o (mapped v ms)
  object_mapped o ms =
      ap (λ fs. fs ++ rest_faults (tree_at v ms) o) (members_mapped o ms)
      ∙ ap (λ at. flat_map (member_faults itself k o) (mapped v ms) ++ rest_faults at o) (at_mapped v ms)

  row_mapped : (r : Result TypeRow Code) (ms : List (List ℕ × X)) → row_faults v (λ x. k (v x)) r ms ≡ row_faults itself k r (mapped v ms)
  row_mapped (Err code) ms = refl
  row_mapped (Ok row) ms = object_mapped row.object ms

  typed_mapped : (rows : List TypeRow) (ms : List (List ℕ × X)) → typed_faults v (λ x. k (v x)) rows (Some ms) ≡ typed_faults itself k rows (Some (mapped v ms))
  typed_mapped rows ms =
      row_mapped (row_of rows (tree_at v ms key.Type)) ms
      ∙ ap (λ at. row_faults itself k (row_of rows (at key.Type)) (mapped v ms)) (at_mapped v ms)

  items_mapped : (a : Kind) (i : ℕ) (xs : List X) → item_faults v (λ x. k (v x)) a i xs ≡ item_faults itself k a i (map v xs)
  items_mapped a i [] = refl
  items_mapped a i (x ∷ xs) = ap (λ more. all_under (Index i) (k (v x) a) ++ more) (items_mapped a (i + 1) xs)

  -- as an object of some types, and as a list of items of a kind
  typed_natural : (rows : List TypeRow) (x : Tree-F X) → typed_faults v (λ y. k (v y)) rows (members_at x) ≡ typed_faults itself k rows (members_at (map-Tree X Tree v x))
  typed_natural rows Tree-F.Null = refl
  typed_natural rows (Tree-F.Bool b) = refl
  typed_natural rows (Tree-F.Num l) = refl
  typed_natural rows (Tree-F.Str s) = refl
  typed_natural rows (Tree-F.Array xs) = refl
  typed_natural rows (Tree-F.Object d) = typed_mapped rows d.members

  object_natural : (o : ObjectRow) (x : Tree-F X) → untyped_faults v (λ y. k (v y)) o (members_at x) ≡ untyped_faults itself k o (members_at (map-Tree X Tree v x))
  object_natural o Tree-F.Null = refl
  object_natural o (Tree-F.Bool b) = refl
  object_natural o (Tree-F.Num l) = refl
  object_natural o (Tree-F.Str s) = refl
  object_natural o (Tree-F.Array xs) = refl
  object_natural o (Tree-F.Object d) = object_mapped o d.members

  each_mapped : (a : Kind) (ms : List (List ℕ × X)) → each_faults v (λ y. k (v y)) a ms ≡ each_faults itself k a (mapped v ms)
  each_mapped a [] = refl
  each_mapped a (m ∷ ms) = ap (λ more. all_under (Name m.0) (k (v m.1) a) ++ more) (each_mapped a ms)

  named_natural : (a : Kind) (x : Tree-F X) → named_faults v (λ y. k (v y)) a (members_at x) ≡ named_faults itself k a (members_at (map-Tree X Tree v x))
  named_natural a Tree-F.Null = refl
  named_natural a (Tree-F.Bool b) = refl
  named_natural a (Tree-F.Num l) = refl
  named_natural a (Tree-F.Str s) = refl
  named_natural a (Tree-F.Array xs) = refl
  named_natural a (Tree-F.Object d) = each_mapped a d.members

  list_natural : (a : Kind) (x : Tree-F X) → list_faults v (λ y. k (v y)) a (items_at x) ≡ list_faults itself k a (items_at (map-Tree X Tree v x))
  list_natural a Tree-F.Null = refl
  list_natural a (Tree-F.Bool b) = refl
  list_natural a (Tree-F.Num l) = refl
  list_natural a (Tree-F.Str s) = refl
  list_natural a (Tree-F.Array xs) = items_mapped a 0 xs
  list_natural a (Tree-F.Object d) = refl

  -- as choices
  choices_natural : (x : Tree-F X) → choices_faults v (λ y. k (v y)) (items_at x) ≡ choices_faults itself k (items_at (map-Tree X Tree v x))
  choices_natural x =
      ap (λ fs. fs ++ list_faults v (λ y. k (v y)) kind.Choice (items_at x)) (no_items_natural v x)
      ∙ ap (λ fs. nothing_faults (items_at (map-Tree X Tree v x)) ++ fs) (list_natural kind.Choice x)

  pair_mapped : (xs : List X) → pair_faults v (λ y. k (v y)) xs ≡ pair_faults itself k (map v xs)
  pair_mapped [] = refl
  pair_mapped (x ∷ []) = refl
  pair_mapped (x ∷ y ∷ []) = refl
  pair_mapped (x ∷ y ∷ z ∷ zs) = refl

  choice_natural : (x : Tree-F X) → choice_faults v (λ y. k (v y)) x ≡ choice_faults itself k (map-Tree X Tree v x)
  choice_natural Tree-F.Null = refl
  choice_natural (Tree-F.Bool b) = refl
  choice_natural (Tree-F.Num l) = refl
  choice_natural (Tree-F.Str s) = refl
  choice_natural (Tree-F.Array xs) = pair_mapped xs
  choice_natural (Tree-F.Object d) = typed_mapped node_types d.members

  tagged_natural : (x : Tree-F X) → tagged_faults v (λ y. k (v y)) (members_at x) ≡ tagged_faults itself k (members_at (map-Tree X Tree v x))
  tagged_natural x =
      ap (λ fs. fs ++ named_faults v (λ y. k (v y)) kind.Schema (members_at x)) (no_members_natural v x)
      ∙ ap (λ fs. nothing_faults (members_at (map-Tree X Tree v x)) ++ fs) (named_natural kind.Schema x)

  -- as a definition
  definition_mapped : (ms : List (List ℕ × X)) → definition_faults v (λ y. k (v y)) (Some ms) ≡ definition_faults itself k (Some (mapped v ms))
  definition_mapped ms =
      ap (λ fs. fs ++ unnamed_faults (tree_at v ms key.Ref)) (typed_mapped node_types ms)
      ∙ ap (λ at. typed_faults itself k node_types (Some (mapped v ms)) ++ unnamed_faults (at key.Ref)) (at_mapped v ms)

  definition_natural : (x : Tree-F X) → definition_faults v (λ y. k (v y)) (members_at x) ≡ definition_faults itself k (members_at (map-Tree X Tree v x))
  definition_natural Tree-F.Null = refl
  definition_natural (Tree-F.Bool b) = refl
  definition_natural (Tree-F.Num l) = refl
  definition_natural (Tree-F.Str s) = refl
  definition_natural (Tree-F.Array xs) = refl
  definition_natural (Tree-F.Object d) = definition_mapped d.members

  level_natural : (a : Kind) (x : Tree-F X) → level_faults v (λ y. k (v y)) a x ≡ level_faults itself k a (map-Tree X Tree v x)
  level_natural (kind.Value w) x = ap (λ y. value_faults w (roll-Tree y)) (sym (level_same (map-Tree X Tree v x)))
  level_natural kind.Schema x = typed_natural node_types x
  level_natural kind.Schemas x = list_natural kind.Schema x
  level_natural kind.Choices x = choices_natural x
  level_natural kind.Choice x = choice_natural x
  level_natural kind.Tagged x = tagged_natural x
  level_natural (kind.Fields f) x = named_natural (kind.Field f) x
  level_natural (kind.Field f) x = typed_natural (field_types f) x
  level_natural kind.Definitions x = list_natural kind.Definition x
  level_natural kind.Definition x = definition_natural x
  level_natural kind.Config x = object_natural config x
  level_natural kind.NotBuilt x = refl

natural : (X : Type 0) (v : X → Tree) (k : Tree → Checked) (x : Tree-F X)
    → check_step X v (λ p. k (v p)) x ≡ check_step Tree (λ y. y) k (map-Tree X Tree v x)
natural X v k x = ap (λ f. record { as_kind = f }) (fun_ext (λ a. level_natural v (λ t. (k t).as_kind) a x))

checked_opens : (t : Tree) → checked t ≡ check_step Tree (λ y. y) checked (out-Tree t)
checked_opens t = ap checked (sym (roll-out-Tree t)) ∙ rec-roll-Tree Checked check_step natural (out-Tree t)

-- what is wrong with a tree is what is wrong with its level
pub faults_open : (t : Tree) (k : Kind) → faults t k ≡ level_faults itself faults k (out-Tree t)
unfolding faults
faults_open t k = ap (λ c. c.as_kind k) (checked_opens t)

-- a value is looked at whole
pub value_opens : (t : Tree) (v : ValueKind) → faults t (kind.Value v) ≡ value_faults v t
value_opens t v = faults_open t (kind.Value v) ∙ ap (λ x. value_faults v (roll-Tree x)) (level_same (out-Tree t)) ∙ ap (value_faults v) (roll-out-Tree t)
