-- What models and defaults make of the walk of their child.
use Rattle.std.proofs.Common.{◌≡◌, ℕ, ◌≤◌, Bool, true, false, List, ◌++◌, Option, Some, None, length, take, refl, ap, ◌∙◌, arith}
use Rattle.std.proofs.Math.Seq.{take-append_seam}
use Rattle.std.proofs.lemmas.List.{length-append}
use Rattle.std.specs.Prelude.{Result}
use Rattle.pv_text.specs.declared.Memory.{Memory}
use Rattle.pv_tree.specs.declared.Tree.{Tree}
use Rattle.pv_fault.specs.declared.Good as good
use Rattle.pv_fault.specs.declared.Outcome.{Outcome}
use Rattle.pv_fault.specs.declared.Outcome.TheVariants.{Good, Bad}
use Rattle.pv_fault.specs.Under.{all_at_path}
use Rattle.pv_walk.specs.declared.Out.{Out}
use Rattle.pv_walk.specs.Walks.{Walked, Walks}
use Rattle.pv_walk.specs.Rules.{Child}
use Rattle.pv_walk.specs.Fields.{missing_value}
use Rattle.pv_walk.specs.Wrapping.{laxly, default_in, model_value, modelled, model_in}
use Rattle.pv_walk_fields.specs.GoingFields.{lax_good}
use Rattle.pv_walk.proofs.Walking.{walks_from}

-- defaults
pub grew : (old new : Out) (n : ℕ) (found : Option good.Good) (o : Outcome) → n ≡ length old.errors → Walked old new found o → n ≤ length new.errors
grew old new n found (Good v g c) mark w = omega (arith, mark, ap length w.errors)
grew old new n found (Bad es) mark w = omega (arith, mark, ap length w.errors, length-append old.errors (all_at_path old.path es))

pub made_lax : (old new : Out) (found : Option good.Good) (o : Outcome) → Walked old new found o → Walked old new (lax_good found) (laxly o)
made_lax old new found (Good v g n) w = record { path = w.path; answer = ap lax_good w.answer; errors = w.errors }
made_lax old new found (Bad es) w = record { path = w.path; answer = ap lax_good w.answer; errors = w.errors }

module _ (old mid : Out) (validates : Bool) (child : Child) (d : Tree) where
  pub child_passes : (stands_in : Bool) (g : good.Good) (o : Outcome) → Walked old mid (Some g) o → Walked old mid (Some g) (default_in stands_in validates child d o)
  child_passes stands_in g (Good v h n) w = w
  child_passes stands_in g (Bad es) w = absurd (let no = w.answer in cc)

  pub child_fails : (o : Outcome) → Walked old mid None o → Walked old mid None (default_in false validates child d o)
  child_fails (Good v h n) w = absurd (let no = w.answer in cc)
  child_fails (Bad es) w = w

  pub stands_in : (cut new : Out) (n : ℕ) (r : Result (Option good.Good) Memory) (o : Outcome) → n ≡ length old.errors → Walked old mid None o
      → cut.path ≡ mid.path → cut.errors ≡ take n mid.errors → Walks cut new r (laxly (missing_value validates child d)) → Walks old new r (default_in true validates child d o)
  stands_in cut new n r (Good v h m) mark w path errors x = absurd (let no = w.answer in cc)
  stands_in cut new n r (Bad es) mark w path errors x =
      walks_from old cut new r _ _ (path ∙ w.path)
      (errors ∙ ap (take n) w.errors ∙ ap (λ k. take k (old.errors ++ all_at_path old.path es)) mark ∙ take-append_seam old.errors (all_at_path old.path es)) refl x

-- models
module _ (old mid : Out) (cls : List ℕ) (root : Bool) (t : Tree) where
  pub model_fails : (o : Outcome) → Walked old mid None o → Walked old mid None (model_in cls root t o)
  model_fails (Good v h n) w = absurd (let no = w.answer in cc)
  model_fails (Bad es) w = w

  pub model_made : (new : Out) (x : good.Good) (r : Result (Option good.Good) Memory) (o : Outcome) → Walked old mid (Some x) o
      → Walks mid new r (modelled t x.grade x.fields (model_value cls root x.value)) → Walks old new r (model_in cls root t o)
  model_made new x r (Bad es) w y = absurd (let no = w.answer in cc)
  model_made new x r (Good v h n) w y =
      let same : x ≡ record { value = v; grade = h; fields = n } = (let is = w.answer in cc) in
      walks_from old mid new r _ _ w.path w.errors (ap (λ z. modelled t z.grade z.fields (model_value cls root z.value)) same) y
