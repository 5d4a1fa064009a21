-- Items that are scalars.
use Rattle.std.proofs.Common.{◌≡◌, ℕ, ℤ, Bool, true, false, refl, sym, ap, ◌∙◌}
use Rattle.std.specs.Prelude.{None, Some, Ok, not, ◌&&◌, if◌then◌else◌}
use Rattle.pv_tree.specs.declared.Step.TheVariants.{Index}
use Rattle.pv_tree.specs.declared.Tree.{Tree}
use Rattle.pv_tree.specs.declared.Value.TheVariants as value
use Rattle.pv_tree.specs.declared.Value.TheOpen.{Value-F}
use Rattle.pv_tree.specs.declared.Value.TheFolds.{fold-roll-Value}
use Rattle.pv_rules.specs.declared.Collection.{Collection}
use Rattle.pv_rules.specs.declared.ScalarRule.{ScalarRule}
use Rattle.pv_rules.specs.declared.Settings.{Settings}
use Rattle.pv_fault.specs.declared.Grade.TheVariants.{Exact}
use Rattle.pv_fault.specs.declared.Kind.TheVariants as kind
use Rattle.pv_fault.specs.declared.Outcome.{Outcome}
use Rattle.pv_fault.specs.declared.Outcome.TheVariants.{Good}
use Rattle.pv_fault.specs.Single.{one_error}
use Rattle.pv_fault.specs.Under.{outcome_under}
use Rattle.pv_equality.specs.Hashable.{hashable, hashable_at}
use Rattle.pv_collect.specs.Gathering.{needs_hash}
use Rattle.pv_collect.specs.Kept.{good_of}
use Rattle.pv_scalar.specs.Tests.{outcome_of}
use Rattle.pv_scalar.specs.Scalars.{answer_of, scalar_of}
use Rattle.pv_walk.specs.declared.Out.{Out}
use Rattle.pv_walk_collections.specs.Going.{hashed, item_in}
use Rattle.pv_walk.specs.Walks.{written, Walked}

-- an int is kept in each kind of collection
hashable_int : (n : ℤ) → hashable (value.Int n) ≡ true
hashable_int n = ap hashable (sym (value.rolls-Int n)) ∙ fold-roll-Value Bool hashable_at (Value-F.Int n)

settled : (b : Bool) (i : ℕ) (t : Tree) (n : ℤ) → (let x : Outcome = if b && not true then one_error kind.SetItemNotHashable t else Good (value.Int n) Exact None in outcome_under (Index i) x) ≡ Good (value.Int n) Exact None
settled true i t n = refl
settled false i t n = refl

kept_by : (b : Bool) (i : ℕ) (t : Tree) (n : ℤ) → outcome_under (Index i) (hashed b kind.SetItemNotHashable t (Good (value.Int n) Exact None)) ≡ Good (value.Int n) Exact None
kept_by b i t n = ap (λ h. let x : Outcome = if b && not h then one_error kind.SetItemNotHashable t else Good (value.Int n) Exact None in outcome_under (Index i) x) (hashable_int n) ∙ settled b i t n

pub int_item : (old : Out) (i : ℕ) (k : Collection) (t : Tree) (n : ℤ) (r : ScalarRule) (s : Settings) (strict : Bool) (o : Outcome) → o ≡ scalar_of r s strict t
    → Ok (value.Int n, Exact) ≡ answer_of r s strict t
    → Walked old old (Some (record { value = value.Int n; grade = Exact; fields = None })) (outcome_under (Index i) (item_in k t o))
unfolding scalar_of
int_item old i k t n r s strict o is answer =
    let whole : o ≡ Good (value.Int n) Exact None = is ∙ ap (outcome_of t) (sym answer) in
    let same : outcome_under (Index i) (item_in k t o) ≡ Good (value.Int n) Exact None = ap (λ x. outcome_under (Index i) (item_in k t x)) whole ∙ kept_by (needs_hash k) i t n in
    record { path = refl; answer = ap good_of (sym same); errors = ap (written old.path old.errors) (sym same) }
