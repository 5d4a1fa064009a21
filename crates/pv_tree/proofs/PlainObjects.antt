-- The plain value of an object by its members.
use Rattle.std.proofs.Common.{◌≡◌, ℕ, List, map, sym, ap, ◌∙◌}
use Rattle.std.proofs.lemmas.Simd.{map-map}
use Rattle.pv_tree.specs.declared.tree.Tree.{Tree}
use Rattle.pv_tree.specs.declared.tree.Tree.TheVariants as tree
use Rattle.pv_tree.specs.declared.tree.Tree.TheVariants.{rolls-Object}
use Rattle.pv_tree.specs.declared.tree.Tree.TheOpen.{Tree-F}
use Rattle.pv_tree.specs.declared.tree.Tree.TheFolds.{fold-roll-Tree}
use Rattle.pv_tree.specs.declared.value.Value.{Value}
use Rattle.pv_tree.specs.declared.value.Value.TheVariants as value
use Rattle.pv_tree.specs.Names.{Distinct}
use Rattle.pv_tree.specs.Plain.{plain, plain_step, member_by, plain_member}

abbrev with_value : List ℕ × Tree → List ℕ × Value
with_value m = (m.0, plain m.1)

pub plain_object : (d : Distinct Tree) → plain (tree.Object d) ≡ value.Dict (map plain_member d.members)
plain_object d = ap plain (sym (rolls-Object d)) ∙ fold-roll-Tree Value plain_step (Tree-F.Object d) ∙ ap value.Dict (map-map member_by with_value d.members)

pub object_made : (t : Tree) (v : Value) (d : Distinct Tree) (es : List (Value × Value)) → t ≡ tree.Object d → es ≡ map plain_member d.members → v ≡ value.Dict es → v ≡ plain t
object_made t v d es e f g = g ∙ ap value.Dict f ∙ sym (ap plain e ∙ plain_object d)
