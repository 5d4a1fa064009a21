-- The text of an object by its members.
use Rattle.std.proofs.Common.{◌≡◌, ℕ, List, [], ◌∷◌, ◌++◌, map, sym, ap, ◌∙◌, append_assoc}
use Rattle.std.proofs.lemmas.Simd.{map-map}
use Rattle.pv_tree.specs.Names.{Distinct}
use Rattle.pv_tree.specs.declared.Tree.{Tree}
use Rattle.pv_tree.specs.declared.Tree.TheVariants as tree
use Rattle.pv_tree.specs.declared.Tree.TheVariants.{rolls-Object}
use Rattle.pv_tree.specs.declared.Tree.TheOpen.{Tree-F}
use Rattle.pv_tree.specs.declared.Tree.TheFolds.{fold-roll-Tree}
use Rattle.pv_notation.specs.Lists.{joined}
use Rattle.pv_notation.specs.Compact.{compact, compact_member, compact_step, member_text}

abbrev with_text : List ℕ × Tree → List ℕ × List ℕ
with_text m = (m.0, compact m.1)

pub compact_object : (d : Distinct Tree) → compact (tree.Object d) ≡ 123 ∷ joined (map compact_member d.members) ++ 125 ∷ []
compact_object d =
    ap compact (sym (rolls-Object d)) ∙ fold-roll-Tree (List ℕ) compact_step (Tree-F.Object d)
    ∙ ap (λ (x : List (List ℕ)). 123 ∷ joined x ++ 125 ∷ []) (map-map member_text with_text d.members)

-- a brace, the members and a brace
pub object_written : (old a b new : List ℕ) (t : Tree) (d : Distinct Tree) → t ≡ tree.Object d → a ≡ old ++ 123 ∷ [] → b ≡ a ++ joined (map compact_member d.members) → new ≡ b ++ 125 ∷ []
    → new ≡ old ++ compact t
object_written old a b new t d e f g h =
    h ∙ ap (λ x. x ++ 125 ∷ []) (g ∙ ap (λ x. x ++ joined (map compact_member d.members)) f) ∙ append_assoc (old ++ 123 ∷ []) (joined (map compact_member d.members)) (125 ∷ [])
    ∙ append_assoc old (123 ∷ []) (joined (map compact_member d.members) ++ 125 ∷ []) ∙ ap (λ x. old ++ x) (sym (ap compact e ∙ compact_object d))
