-- A function value that walks the records of a scene.
use Rattle.std.specs.Prelude.{◌≡◌, ℕ, Option, Result}
use denote.Ref.{Bor, MutBor}
use denote.Param.Members.{Shared}
use Rattle.pv_text.specs.declared.Memory.{Memory}
use Rattle.pv_tree.specs.declared.Tree.{Tree}
use Rattle.pv_fault.specs.declared.Good.{Good}
use Rattle.pv_walk.specs.declared.out.Out.{Out}
use Rattle.pv_walk.specs.declared.scene.Scene.{Scene}
use Rattle.pv_walk.specs.declared.level.Level.{Level}
use Rattle.pv_walk.specs.Rules.{Child}
use Rattle.pv_walk.specs.Run.{means}
use Rattle.pv_func.specs.Functions.{Named, Meaning}
use Rattle.pv_walk.specs.Walks.{Walks}

-- what the records mean one depth further down
abbrev pub below : {O F : Type 0} → (O → Named Meaning) → Level O F → ℕ → Child
below of r = means (of r.objects.now) r.scene.now r.depth

-- the arguments of the function, and its results, where what is lent for writing stands again
abbrev pub Takes : Type 0 → Type 0
Takes O = Bor Scene × (Bor O × (MutBor Out × (ℕ × (ℕ × (Bor Tree × Unit {0})))))

abbrev pub Gives : Type 0
Gives = Result (Option Good) Memory × (MutBor Out × Unit {0})

-- it may be called at the depth of the level, and walks there what the record of the number means
pub record Nests {O F : Type 0} (of : O → Named Meaning) (call : Shared F (Takes O) Gives)
    (r : Level O F) : Type 0 where
  pub callable : (s : Bor Scene) (o : Bor O) (old : MutBor Out) (n : ℕ) (t : Bor Tree)
      → call.pre r.below (s, (o, (old, (r.depth, (n, (t, tt))))))
  pub walks : (s : Bor Scene) (o : Bor O) (old new : MutBor Out) (n : ℕ) (t : Bor Tree)
      (found : Result (Option Good) Memory) → s.now ≡ r.scene.now → o.now ≡ r.objects.now
      → call.post r.below (s, (o, (old, (r.depth, (n, (t, tt)))))) (found, (new, tt))
      → Walks old.now new.now found (below of r n t.now)
