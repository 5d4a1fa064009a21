-- Keys in the two parts of an object's row.
use Rattle.std.proofs.Common.{◌≡◌, ℕ, Bool, true, false, if◌then◌else◌, List, [], ◌∷◌, ◌++◌, refl, sym, ap, ◌∙◌, Option, Some, None}
use Rattle.std.specs.Prelude.{bytes_eq}
use Rattle.pv_schema_table.specs.Keys.{text}
use Rattle.pv_schema_table.specs.Table.{ObjectRow, kind_in, kind_under}
use Rattle.pv_schema_table.specs.declared.kind.Kind.{Kind}
use Rattle.pv_schema_table.specs.declared.row.KeyRow.{KeyRow}

abbrev or_else : Option Kind → Option Kind → Option Kind
or_else None b = b
or_else (Some k) b = Some k

chosen : (b : Bool) (k : Kind) (o p q : Option Kind) → p ≡ or_else o q → (if b then Some k else p) ≡ or_else (if b then Some k else o) q
chosen true k o p q e = refl
chosen false k o p q e = e

kind_append : (rs bs : List KeyRow) (name : List ℕ) → kind_in (rs ++ bs) name ≡ or_else (kind_in rs name) (kind_in bs name)
kind_append [] bs name = refl
kind_append (r ∷ rs) bs name = chosen (bytes_eq name (text r.key)) r.kind (kind_in rs name) (kind_in (rs ++ bs) name) (kind_in bs name) (kind_append rs bs name)

pub kind_found : (o : ObjectRow) (name : List ℕ) (k : Kind) → Some k ≡ kind_in o.shared name → Some k ≡ kind_under o name
unfolding kind_under
kind_found o name k e = sym (kind_append o.shared o.own name ∙ ap (λ p. or_else p (kind_in o.own name)) (sym e))

pub kind_not_found : (o : ObjectRow) (name : List ℕ) → None ≡ kind_in o.shared name → kind_in o.own name ≡ kind_under o name
unfolding kind_under
kind_not_found o name e = sym (kind_append o.shared o.own name ∙ ap (λ p. or_else p (kind_in o.own name)) (sym e))
