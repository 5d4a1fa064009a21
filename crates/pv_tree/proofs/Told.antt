-- Members with distinct names are told apart by their list.
use Rattle.std.proofs.Common.{◌≡◌, ℕ, List, ◌∙◌, Result, Ok, Err, subst, sym}
use Rattle.std.specs.Prelude.{IfOk}
use Rattle.pv_tree.specs.Names.{Distinct, HasDistinctNames, same_distinct}
use Rattle.pv_tree.specs.Merging.{merged, merged_distinct}

pub told : {V E : Type 0} (r : Result (Distinct V) E) (d : Distinct V) (ms : List (List ℕ × V)) → IfOk r (λ x. x.members ≡ ms) → ms ≡ d.members → IfOk r (λ x. x ≡ d)
told (Ok x) d ms h e = same_distinct x d (h ∙ e)
told (Err f) d ms h e = tt

pub merged_are : {V : Type 0} (all ms : List (List ℕ × V)) → all ≡ merged ms → HasDistinctNames all
merged_are all ms e = subst HasDistinctNames (sym e) (merged_distinct ms)
