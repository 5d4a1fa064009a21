-- A fact of the values and trees inside one level, and induction by it.
use Rattle.std.proofs.Common.{ℕ, List, [], ◌∷◌, map, subst}
use Rattle.std.specs.List.{AllByRecursion}
use Rattle.pv_tree.specs.declared.Value.{Value, map-Value}
use Rattle.pv_tree.specs.declared.Value.TheOpen.{Value-F}
use Rattle.pv_tree.specs.declared.Value.TheViews.{roll-Value}
use Rattle.pv_tree.specs.declared.Value.TheFolds.{ind-Value}
use Rattle.pv_tree.specs.declared.Tree.{Tree, map-Tree}
use Rattle.pv_tree.specs.declared.Tree.TheOpen.{Tree-F}
use Rattle.pv_tree.specs.declared.Tree.TheViews.{roll-Tree}
use Rattle.pv_tree.specs.declared.Tree.TheFolds.{ind-Tree}

-- P of each value inside
abbrev pub AllInside : {X : Type 0} → (X → Type 0) → Value-F X → Type 0
AllInside P Value-F.None = Unit {0}
AllInside P (Value-F.Bool b) = Unit {0}
AllInside P (Value-F.Int n) = Unit {0}
AllInside P (Value-F.Lexeme lexeme) = Unit {0}
AllInside P (Value-F.Str text) = Unit {0}
AllInside P (Value-F.Bytes bytes) = Unit {0}
AllInside P (Value-F.Atom kind text) = Unit {0}
AllInside P (Value-F.Enum cls name value) = P value
AllInside P (Value-F.List values) = AllByRecursion P values
AllInside P (Value-F.Tuple values) = AllByRecursion P values
AllInside P (Value-F.Set values) = AllByRecursion P values
AllInside P (Value-F.Frozen values) = AllByRecursion P values
AllInside P (Value-F.Dict entries) = AllByRecursion (λ e. P e.0 × P e.1) entries
AllInside P (Value-F.Model cls fields set extra) = AllByRecursion (λ m. P m.1) fields × AllByRecursion (λ m. P m.1) extra
AllInside P (Value-F.Root cls value) = P value

module _ {X : Type 0} (P : X → Type 0) where
  all_held : (es : List ((x : X) × P x)) → AllByRecursion P (map (λ e. e.0) es)
  all_held [] = tt
  all_held (e ∷ es) = (e.1, all_held es)

  entries_held : (es : List (((x : X) × P x) × ((x : X) × P x))) → AllByRecursion (λ (e : X × X). P e.0 × P e.1) (map (λ e. (e.0.0, e.1.0)) es)
  entries_held [] = tt
  entries_held (e ∷ es) = ((e.0.1, e.1.1), entries_held es)

  named_held : (ms : List (List ℕ × ((x : X) × P x))) → AllByRecursion (λ (m : List ℕ × X). P m.1) (map (λ m. (m.0, m.1.0)) ms)
  named_held [] = tt
  named_held (m ∷ ms) = (m.1.1, named_held ms)

pub inside_held : (P : Value → Type 0) (y : Value-F ((v : Value) × P v)) → AllInside P (map-Value ((v : Value) × P v) Value (λ e. e.0) y)
inside_held P Value-F.None = tt
inside_held P (Value-F.Bool b) = tt
inside_held P (Value-F.Int n) = tt
inside_held P (Value-F.Lexeme lexeme) = tt
inside_held P (Value-F.Str text) = tt
inside_held P (Value-F.Bytes bytes) = tt
inside_held P (Value-F.Atom kind text) = tt
inside_held P (Value-F.Enum cls name value) = value.1
inside_held P (Value-F.List values) = all_held P values
inside_held P (Value-F.Tuple values) = all_held P values
inside_held P (Value-F.Set values) = all_held P values
inside_held P (Value-F.Frozen values) = all_held P values
inside_held P (Value-F.Dict entries) = entries_held P entries
inside_held P (Value-F.Model cls fields set extra) = (named_held P fields, named_held P extra)
inside_held P (Value-F.Root cls value) = value.1

pub by_levels : (P : Value → Type 0) → ((x : Value-F Value) → AllInside P x → P (roll-Value x)) → (v : Value) → P v
by_levels P step = ind-Value P (λ x y is. step x (subst (AllInside P) is (inside_held P y)))

abbrev pub AllInTree : {X : Type 0} → (X → Type 0) → Tree-F X → Type 0
AllInTree P Tree-F.Null = Unit {0}
AllInTree P (Tree-F.Bool b) = Unit {0}
AllInTree P (Tree-F.Num lexeme) = Unit {0}
AllInTree P (Tree-F.Str text) = Unit {0}
AllInTree P (Tree-F.Array ts) = AllByRecursion P ts
AllInTree P (Tree-F.Object d) = AllByRecursion (λ m. P m.1) d.members

pub in_tree_held : (P : Tree → Type 0) (y : Tree-F ((t : Tree) × P t)) → AllInTree P (map-Tree ((t : Tree) × P t) Tree (λ e. e.0) y)
in_tree_held P Tree-F.Null = tt
in_tree_held P (Tree-F.Bool b) = tt
in_tree_held P (Tree-F.Num lexeme) = tt
in_tree_held P (Tree-F.Str text) = tt
in_tree_held P (Tree-F.Array ts) = all_held P ts
in_tree_held P (Tree-F.Object d) = named_held P d.members

pub by_tree_levels : (P : Tree → Type 0) → ((x : Tree-F Tree) → AllInTree P x → P (roll-Tree x)) → (t : Tree) → P t
by_tree_levels P step = ind-Tree P (λ x y is. step x (subst (AllInTree P) is (in_tree_held P y)))
