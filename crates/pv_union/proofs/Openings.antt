-- The label of a node by those of its child schemas.
use Rattle.std.proofs.Common.{◌≡◌, ℕ, ◌+◌, List, [], ◌∷◌, ◌++◌, map, codes, refl, ap, sym, ◌∙◌, Option, Some, None}
use Rattle.pv_node.specs.declared.Node.{Node, roll-out-Node, out-Node, fold-Node}
use Rattle.pv_node.specs.declared.Body.{roll-out-Body, out-Body, fold-Body, map-Body}
use Rattle.pv_node.specs.declared.Body.TheFolds.{fold-roll-Body, fold-roll-Node}
use Rattle.pv_node.specs.declared.Body.TheOpen.{Body-F}
use Rattle.pv_union.specs.Labels.{label, body_step, node_step, body_label, position_labels, after_position, joined_by, bracketed}

module _ {X Y X' : Type 0} (v : X → X') (inner : Y → List ℕ) where
  positions : (variadic : Option ℕ) (i : ℕ) (ys : List Y) → position_labels (λ text. text) variadic i (map inner ys) ≡ position_labels inner variadic i ys
  positions variadic i [] = refl
  positions variadic i (y ∷ ys) = ap (λ texts. (inner y ++ after_position variadic i) ∷ texts) (positions variadic (i + 1) ys)

  -- a level reads its child schemas by their labels alone
  level : (b : Body-F X Y) → body_label (λ text. text) (map-Body X Y X' (List ℕ) v inner b) ≡ body_label inner b
  level (Body-F.Scalar rule) = refl
  level (Body-F.Sequence rule None) = refl
  level (Body-F.Sequence rule (Some n)) = refl
  level (Body-F.Tuple rule ns) = ap (λ texts. bracketed (codes "tuple") (joined_by (codes ", ") texts)) (positions rule.variadic_item_index 0 ns)
  level (Body-F.Dict rule None None) = refl
  level (Body-F.Dict rule None (Some m)) = refl
  level (Body-F.Dict rule (Some n) None) = refl
  level (Body-F.Dict rule (Some n) (Some m)) = refl
  level (Body-F.Nullable n) = refl
  level (Body-F.Fields rule ns extras config cls) = refl
  level (Body-F.Model cls root config n) = refl
  level (Body-F.Default d validate on_error n) = refl
  level (Body-F.Union rule ns) = refl
  level (Body-F.TaggedUnion rule ns) = refl
  level (Body-F.LaxOrStrict n m) = refl
  level (Body-F.JsonOrPython n) = refl
  level (Body-F.CustomError kind message n) = refl
  level (Body-F.Before rule n) = refl
  level (Body-F.After rule n) = refl
  level (Body-F.Wrap rule n) = refl
  level (Body-F.Plain rule) = refl
  level (Body-F.Definitions n ns) = refl
  level (Body-F.DefinitionRef name) = refl

pub opens : (n : Node) → label n ≡ body_label label (out-Body (out-Node n).body)
unfolding label
opens n =
    ap (fold-Node (List ℕ) (List ℕ) body_step node_step) (sym (roll-out-Node n))
    ∙ fold-roll-Node (List ℕ) (List ℕ) body_step node_step (out-Node n)
    ∙ ap (fold-Body (List ℕ) (List ℕ) body_step node_step) (sym (roll-out-Body (out-Node n).body))
    ∙ fold-roll-Body (List ℕ) (List ℕ) body_step node_step (out-Body (out-Node n).body)
    ∙ level (fold-Body (List ℕ) (List ℕ) body_step node_step) (fold-Node (List ℕ) (List ℕ) body_step node_step) (out-Body (out-Node n).body)
