-- The compact JSON of a tree spells that tree.
use Rattle.std.proofs.Common.{◌≡◌, ℕ, zero, suc, true, false, List, [], ◌∷◌, map, refl, sym, ap, ◌∙◌, subst, append-nil}
use Rattle.std.proofs.lemmas.List.Elements.{recursion_from_All}
use Rattle.std.specs.Prelude.{All, IsUtf8}
use Rattle.std.specs.List.{AllByRecursion}
use Rattle.pv_number.specs.Grammar.{IsNumber}
use Rattle.pv_tree.specs.declared.Tree.{Tree, out-Tree, roll-Tree, roll-out-Tree}
use Rattle.pv_tree.specs.declared.Tree.TheVariants as tree
use Rattle.pv_tree.specs.declared.Tree.TheVariants.{rolls-Null, rolls-Bool, rolls-Num, rolls-Str, rolls-Array, rolls-Object}
use Rattle.pv_tree.specs.declared.Tree.TheOpen.{Tree-F}
use Rattle.pv_tree.specs.declared.Tree.TheFolds.{fold-roll-Tree}
use Rattle.pv_notation.specs.Strings.{quoted}
use Rattle.pv_notation.specs.Lists.{joined}
use Rattle.pv_notation.specs.Compact.{compact, compact_member, compact_step}
use Rattle.pv_notation.proofs.Objects.{compact_object}
use Rattle.pv_json_grammar.specs.SpelledStrings.{SpellsString}
use Rattle.pv_json_grammar.specs.Spells.{SpellsScalar, spells_null, spells_true, spells_false, spells_number, spells_text, Padded, Listed, Enclosed, SpellsMember, SpellsValue, spells_scalar, spells_array, spells_object, Spells, SpellsDocument}
use Rattle.pv_json_grammar.specs.DocumentTrees.{IsLevel, AreMembers, IsDocumentTree}
use Rattle.pv_json_grammar.proofs.Quoted.{quoted_spelled}
use Rattle.pv_json_grammar.proofs.Names.{object_same}

-- things and the texts that spell them, with no white space
module _ {A : Type 0} (S : List ℕ → A → Type 0) where
  alone : (bs : List ℕ) (x : A) → S bs x → Padded S bs x
  alone bs x s = record { lead = []; text = bs; trail = []; whole = sym (append-nil bs); blank_lead = tt; spells = s; blank_trail = tt }

module _ {A : Type 0} (S : List ℕ → A → Type 0) (text : A → List ℕ) where
  listed : (x : A) (xs : List A) → AllByRecursion (λ y. S (text y) y) (x ∷ xs) → Listed S (joined (map text (x ∷ xs))) (x ∷ xs)
  listed x [] a = subst (λ z. Padded S z x) (sym (append-nil (text x))) (alone S (text x) x a.0)
  listed x (y ∷ ys) a = (text x, joined (map text (y ∷ ys)), refl, alone S (text x) x a.0, listed y ys a.1)

  enclosed : (xs : List A) → AllByRecursion (λ y. S (text y) y) xs → Enclosed S (joined (map text xs)) xs
  enclosed [] a = tt
  enclosed (x ∷ xs) a = listed x xs a

number_spelled : (text bs : List ℕ) → bs ≡ text → IsNumber text → SpellsScalar bs (tree.Num text)
number_spelled text bs e l = spells_number (subst IsNumber (sym e) l) (ap tree.Num (sym e))

text_spelled : (text bs : List ℕ) → bs ≡ quoted text → IsUtf8 text → SpellsScalar bs (tree.Str text)
text_spelled text bs e u = spells_text text (subst (λ z. SpellsString z text) (sym e) (quoted_spelled text u)) refl

-- one level that holds no other tree
scalar_spelled : (x : Tree-F Tree) → IsLevel (λ ts. ⊥) (λ ms. ⊥) x → SpellsScalar (compact (roll-Tree x)) (roll-Tree x)
scalar_spelled Tree-F.Null l = spells_null (fold-roll-Tree (List ℕ) compact_step Tree-F.Null) rolls-Null
scalar_spelled (Tree-F.Bool true) l = spells_true (fold-roll-Tree (List ℕ) compact_step (Tree-F.Bool true)) (rolls-Bool true)
scalar_spelled (Tree-F.Bool false) l = spells_false (fold-roll-Tree (List ℕ) compact_step (Tree-F.Bool false)) (rolls-Bool false)
scalar_spelled (Tree-F.Num lexeme) l =
    subst (SpellsScalar (compact (roll-Tree (Tree-F.Num lexeme)))) (sym (rolls-Num lexeme))
    (number_spelled lexeme _ (fold-roll-Tree (List ℕ) compact_step (Tree-F.Num lexeme)) l)
scalar_spelled (Tree-F.Str text) l =
    subst (SpellsScalar (compact (roll-Tree (Tree-F.Str text)))) (sym (rolls-Str text))
    (text_spelled text _ (fold-roll-Tree (List ℕ) compact_step (Tree-F.Str text)) l)
scalar_spelled (Tree-F.Array ts) l = absurd l
scalar_spelled (Tree-F.Object d) l = absurd l

-- one level, of which the trees inside are spelled by their compact JSON
module _ (S : List ℕ → Tree → Type 0) (Inner : Tree → Type 0) (spells : (t : Tree) → Inner t → S (compact t) t) where
  items_spelled : (ts : List Tree) → AllByRecursion Inner ts → AllByRecursion (λ t. S (compact t) t) ts
  items_spelled [] a = tt
  items_spelled (t ∷ ts) a = (spells t a.0, items_spelled ts a.1)

  member_spelled : (m : List ℕ × Tree) → IsUtf8 m.0 → Inner m.1 → SpellsMember S (compact_member m) m
  member_spelled m u i =
      record {
        name = quoted m.0;
        before = [];
        behind = [];
        value = compact m.1;
        whole = refl;
        spells_name = quoted_spelled m.0 u;
        blank_before = tt;
        blank_behind = tt;
        spells_value = spells m.1 i;
      }

  members_spelled : (ms : List (List ℕ × Tree)) → AllByRecursion (λ m. IsUtf8 m.0 × Inner m.1) ms → AllByRecursion (λ m. SpellsMember S (compact_member m) m) ms
  members_spelled [] a = tt
  members_spelled (m ∷ ms) a = (member_spelled m a.0.0 a.0.1, members_spelled ms a.1)

  level_spelled : (x : Tree-F Tree) → IsLevel (All Inner) (AreMembers Inner) x → SpellsValue S (compact (roll-Tree x)) (roll-Tree x)
  level_spelled Tree-F.Null l = spells_scalar (scalar_spelled Tree-F.Null l)
  level_spelled (Tree-F.Bool b) l = spells_scalar (scalar_spelled (Tree-F.Bool b) l)
  level_spelled (Tree-F.Num lexeme) l = spells_scalar (scalar_spelled (Tree-F.Num lexeme) l)
  level_spelled (Tree-F.Str text) l = spells_scalar (scalar_spelled (Tree-F.Str text) l)
  level_spelled (Tree-F.Array ts) l =
      spells_array (joined (map compact ts)) ts (fold-roll-Tree (List ℕ) compact_step (Tree-F.Array ts)) (enclosed S compact ts (items_spelled ts (recursion_from_All Inner ts l))) (rolls-Array ts)
  level_spelled (Tree-F.Object d) l =
      spells_object (joined (map compact_member d.members)) d.members (ap compact (rolls-Object d) ∙ compact_object d)
      (enclosed (SpellsMember S) compact_member d.members (members_spelled d.members (recursion_from_All (λ (m : List ℕ × Tree). IsUtf8 m.0 × Inner m.1) d.members l)))
      (rolls-Object d ∙ ap tree.Object (sym (object_same d)))

pub compact_spelled : (n : ℕ) (t : Tree) → IsDocumentTree n t → Spells n (compact t) t
unfolding Spells IsDocumentTree
compact_spelled zero t d = subst (λ u. SpellsScalar (compact u) u) (roll-out-Tree t) (scalar_spelled (out-Tree t) d)
compact_spelled (suc n) t d =
    subst (λ u. SpellsValue (Spells n) (compact u) u) (roll-out-Tree t) (level_spelled (Spells n) (IsDocumentTree n) (compact_spelled n) (out-Tree t) d)

pub document_tree_spelled : (n : ℕ) (t : Tree) → IsDocumentTree n t → SpellsDocument n (compact t) t
document_tree_spelled n t d = alone (Spells n) (compact t) t (compact_spelled n t d)
