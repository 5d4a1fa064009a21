-- What is spelled is a tree of a document.
use Rattle.std.proofs.Common.{◌≡◌, ℕ, zero, suc, true, false, List, [], ◌∷◌, sym, ap, ◌∙◌, subst}
use Rattle.std.proofs.lemmas.List.Elements.{All-from_recursion}
use Rattle.std.specs.Prelude.{All, IsUtf8}
use Rattle.std.specs.List.{AllByRecursion}
use Rattle.pv_tree.specs.declared.Tree.{Tree, out-Tree, roll-Tree, out-roll-Tree}
use Rattle.pv_tree.specs.declared.Tree.TheVariants.{rolls-Null, rolls-Bool, rolls-Num, rolls-Str, rolls-Array, rolls-Object}
use Rattle.pv_tree.specs.declared.Tree.TheOpen.{Tree-F}
use Rattle.pv_tree.specs.Merging.{merged, object_of}
use Rattle.pv_notation.specs.Compact.{compact}
use Rattle.pv_json_grammar.specs.Documents.{whole, reading}
use Rattle.pv_json_grammar.specs.SpelledStrings.{SpellsString}
use Rattle.pv_json_grammar.specs.Spells.{SpellsScalar, spells_null, spells_true, spells_false, spells_number, spells_text, Listed, Enclosed, SpellsMember, SpellsValue, spells_scalar, spells_array, spells_object, Spells, SpellsDocument}
use Rattle.pv_json_grammar.specs.DocumentTrees.{IsLevel, AreMembers, IsDocumentTree}
use Rattle.pv_json_grammar.proofs.Utf8Kept.{units_utf8}
use Rattle.pv_json_grammar.proofs.Names.{merged_keeps}
use Rattle.pv_json_grammar.proofs.Readings.{reading_sound, reading_complete}
use Rattle.pv_json_grammar.proofs.CompactSpelled.{document_tree_spelled}

pub spelled_utf8 : (bs text : List ℕ) → SpellsString bs text → IsUtf8 text
spelled_utf8 bs text s = subst IsUtf8 (sym s.means) (units_utf8 s.units s.each)

module _ (items : List Tree → Type 0) (members : List (List ℕ × Tree) → Type 0) where
  -- a tree that rolls up this level
  opened : (x : Tree-F Tree) (t : Tree) → roll-Tree x ≡ t → IsLevel items members x → IsLevel items members (out-Tree t)
  opened x t e l = subst (IsLevel items members) (sym (out-roll-Tree x) ∙ ap out-Tree e) l

  scalar_level : (bs : List ℕ) (t : Tree) → SpellsScalar bs t → IsLevel items members (out-Tree t)
  scalar_level bs t (spells_null e f) = opened Tree-F.Null t (rolls-Null ∙ sym f) tt
  scalar_level bs t (spells_true e f) = opened (Tree-F.Bool true) t (rolls-Bool true ∙ sym f) tt
  scalar_level bs t (spells_false e f) = opened (Tree-F.Bool false) t (rolls-Bool false ∙ sym f) tt
  scalar_level bs t (spells_number l f) = opened (Tree-F.Num bs) t (rolls-Num bs ∙ sym f) l
  scalar_level bs t (spells_text text s f) = opened (Tree-F.Str text) t (rolls-Str text ∙ sym f) (spelled_utf8 bs text s)

module _ {A : Type 0} (S : List ℕ → A → Type 0) (P : A → Type 0) (holds : (bs : List ℕ) (x : A) → S bs x → P x) where
  each_listed : (bs : List ℕ) (x : A) (xs : List A) → Listed S bs (x ∷ xs) → AllByRecursion P (x ∷ xs)
  each_listed bs x [] p = (holds p.text x p.spells, tt)
  each_listed bs x (y ∷ ys) (first, more, w, p, q) = (holds p.text x p.spells, each_listed more y ys q)

  each_enclosed : (bs : List ℕ) (xs : List A) → Enclosed S bs xs → AllByRecursion P xs
  each_enclosed bs [] e = tt
  each_enclosed bs (x ∷ xs) e = each_listed bs x xs e

module _ (S : List ℕ → Tree → Type 0) (Inner : Tree → Type 0) (holds : (bs : List ℕ) (t : Tree) → S bs t → Inner t) where
  member_holds : (bs : List ℕ) (m : List ℕ × Tree) → SpellsMember S bs m → IsUtf8 m.0 × Inner m.1
  member_holds bs m s = (spelled_utf8 s.name m.0 s.spells_name, holds s.value m.1 s.spells_value)

  value_level : (bs : List ℕ) (t : Tree) → SpellsValue S bs t → IsLevel (All Inner) (AreMembers Inner) (out-Tree t)
  value_level bs t (spells_scalar s) = scalar_level (All Inner) (AreMembers Inner) bs t s
  value_level bs t (spells_array inside ts e i f) =
      opened (All Inner) (AreMembers Inner) (Tree-F.Array ts) t (rolls-Array ts ∙ sym f) (All-from_recursion Inner ts (each_enclosed S Inner holds inside ts i))
  value_level bs t (spells_object inside ms e i f) =
      opened (All Inner) (AreMembers Inner) (Tree-F.Object (object_of ms)) t (rolls-Object (object_of ms) ∙ sym f)
      (All-from_recursion (λ (m : List ℕ × Tree). IsUtf8 m.0 × Inner m.1) (merged ms) (merged_keeps IsUtf8 Inner ms (each_enclosed (SpellsMember S) (λ m. IsUtf8 m.0 × Inner m.1) member_holds inside ms i)))

pub spelled_tree : (n : ℕ) (bs : List ℕ) (t : Tree) → Spells n bs t → IsDocumentTree n t
unfolding Spells IsDocumentTree
spelled_tree zero bs t s = scalar_level (λ ts. ⊥) (λ ms. ⊥) bs t s
spelled_tree (suc n) bs t s = value_level (Spells n) (IsDocumentTree n) (spelled_tree n) bs t s

pub document_tree : (n : ℕ) (bs : List ℕ) (t : Tree) → SpellsDocument n bs t → IsDocumentTree n t
document_tree n bs t d = spelled_tree n d.text t d.spells

pub round_trip : (n : ℕ) (bs : List ℕ) (t : Tree) → reading n bs ≡ whole t → reading n (compact t) ≡ whole t
round_trip n bs t e = reading_complete n (compact t) t (document_tree_spelled n t (document_tree n bs t (reading_sound n bs t e)))
