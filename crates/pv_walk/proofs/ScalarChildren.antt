-- Children that are scalars.
use Rattle.std.proofs.Common.{◌≡◌, ◌≤◌, ◌-◌, ℕ, zero, suc, List, [], ◌∷◌, map, length, get_or, slice_get, refl, ap, ◌∙◌, arith}
use Rattle.std.specs.Prelude.{Option, None, Some, IfSome}
use Rattle.pv_tree.specs.declared.Tree.{Tree}
use Rattle.pv_scalar.specs.Scalars.{scalar_of}
use Rattle.pv_func.specs.Functions.{Named, Meaning}
use Rattle.pv_walk.specs.declared.scene.Scene.{Scene}
use Rattle.pv_walk.specs.declared.scene.ScalarNode.{ScalarNode}
use Rattle.pv_walk.specs.Rules.{Child, first}
use Rattle.pv_walk.specs.Run.{context_of, means, run_table, at_record}

-- a record that is entered means what it says by the records one level further down
means_at : (fs : Named Meaning) (scene : Scene) (depth number : ℕ) (t : Tree) → (depth ≡ 0 → ⊥)
    → means fs scene depth number t ≡ at_record scene.table.now (context_of scene.run fs) (run_table scene.table.now (context_of scene.run fs) (depth - 1)) (slice_get scene.table.now number) t
unfolding means run_table
means_at fs scene zero number t some = absurd (some refl)
means_at fs scene (suc d) number t some =
    let same : d ≡ suc d - 1 = omega arith in
    ap (λ n. at_record scene.table.now (context_of scene.run fs) (run_table scene.table.now (context_of scene.run fs) n) (slice_get scene.table.now number) t) same

-- so where the record of the first child is a scalar, the child gives what the scalar gives
pub first_scalar : (fs : Named Meaning) (scene : Scene) (depth : ℕ) (cs : List ℕ) (found : Option ScalarNode) → 1 ≤ length cs → (depth ≡ 0 → ⊥)
    → IfSome found (λ node. (gs : Named Meaning) (child : ℕ → Child) (t : Tree) → at_record scene.table.now (context_of scene.run gs) child (slice_get scene.table.now (get_or cs 0 0)) t ≡ scalar_of node.rule.now.0 node.rule.now.1 node.strict t)
    → IfSome found (λ node. (t : Tree) → first (map (means fs scene depth) cs) t ≡ scalar_of node.rule.now.0 node.rule.now.1 node.strict t)
first_scalar fs scene depth [] found l some h = absurd (omega (arith, l))
first_scalar fs scene depth (c ∷ cs) None l some h = h
first_scalar fs scene depth (c ∷ cs) (Some node) l some h = λ t. means_at fs scene depth c t some ∙ h fs (run_table scene.table.now (context_of scene.run fs) (depth - 1)) t
