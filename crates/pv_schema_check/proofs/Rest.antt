-- What is left to say of an object whose keys are right, by the two parts of its row.
use Rattle.std.proofs.Common.{◌≡◌, Bool, true, false, if◌then◌else◌, List, [], ◌∷◌, ◌++◌, refl, ap, ◌∙◌, Option}
use Rattle.std.proofs.lemmas.List.{append_assoc}
use Rattle.pv_tree.specs.declared.Tree.{Tree}
use Rattle.pv_schema_check.specs.Checking.{missing, misfits, is_absent, rest_faults}
use Rattle.pv_schema_table.specs.Table.{ObjectRow}
use Rattle.pv_schema_check.specs.declared.fault.Refusal.{Refusal}
use Rattle.pv_schema_table.specs.declared.Key.{Key}
use Rattle.pv_schema_table.specs.declared.KeyRow.{KeyRow}

module _ (at : Key → Option Tree) where
  more : (b : Bool) (r : Refusal) (xs ys zs : List Refusal) → xs ≡ ys ++ zs → (if b then r ∷ xs else xs) ≡ (if b then r ∷ ys else ys) ++ zs
  more true r xs ys zs e = ap (λ l. r ∷ l) e
  more false r xs ys zs e = e

  missing_append : (rs bs : List KeyRow) → missing at (rs ++ bs) ≡ missing at rs ++ missing at bs
  missing_append [] bs = refl
  missing_append (r ∷ rs) bs = more (is_absent at r) _ (missing at (rs ++ bs)) (missing at rs) (missing at bs) (missing_append rs bs)

  pub rest_splits : (o : ObjectRow) → rest_faults at o ≡ missing at o.shared ++ (missing at o.own ++ misfits at o.tests)
  unfolding rest_faults
  rest_splits o =
      ap (λ l. l ++ misfits at o.tests) (missing_append o.shared o.own)
      ∙ append_assoc (missing at o.shared) (missing at o.own) (misfits at o.tests)
