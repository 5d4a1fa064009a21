-- What is made of the parts that are kept.
use Rattle.std.proofs.Common.{◌≡◌, ℕ, List, length, ap, ◌∙◌}
use Rattle.std.specs.Prelude.{Option, Result}
use Rattle.pv_tree.specs.declared.Value.{Value}
use Rattle.pv_tree.specs.declared.Value.TheVariants as value
use Rattle.pv_rules.specs.declared.GatherRule.{GatherRule}
use Rattle.pv_fault.specs.declared.Grade.{Grade}
use Rattle.pv_fault.specs.declared.Kind.{Kind}
use Rattle.pv_fault.specs.declared.Good.{Good}
use Rattle.pv_equality.specs.Merging.{merged_entries}
use Rattle.pv_collect.specs.Gathering.{kept, made_of, length_fault}
use Rattle.pv_collect.specs.Kept.{Kept, fitting, finished_items, finished_entries}

abbrev good : Value → Grade → Option ℕ → Good
good v g n = record { value = v; grade = g; fields = n }

abbrev kept_as : {X : Type 0} → List X → Grade → Option ℕ → Kept X
kept_as vs g n = record { values = vs; grade = g; count = n }

pub made_items : (r : GatherRule) (items : ℕ) (k : Kept Value) (vs es made : List Value) (v : Value) (g : Grade) (c : Option ℕ) (n : ℕ) (f : Option Kind) (found : Result Good Kind)
    → kept_as vs g c ≡ k → es ≡ kept r.kind vs → n ≡ length es → f ≡ length_fault r items n → made ≡ es → v ≡ made_of r.kind made → found ≡ fitting f (good v g c)
    → found ≡ finished_items r items k
unfolding finished_items
made_items r items k vs es made v g c n f found view e count fault same value_is is =
    is ∙ ap (λ x. fitting f (good x g c)) (value_is ∙ ap (made_of r.kind) same)
    ∙ ap (λ x. fitting x (good (made_of r.kind es) g c)) (fault ∙ ap (length_fault r items) count)
    ∙ ap (λ xs. fitting (length_fault r items (length xs)) (good (made_of r.kind xs) g c)) e
    ∙ ap (finished_items r items) view

pub made_entries : (r : GatherRule) (k : Kept (Value × Value)) (vs es made : List (Value × Value)) (g : Grade) (c : Option ℕ) (n : ℕ) (f : Option Kind) (found : Result Good Kind)
    → kept_as vs g c ≡ k → es ≡ merged_entries vs → n ≡ length es → f ≡ length_fault r n n → made ≡ es → found ≡ fitting f (good (value.Dict made) g c)
    → found ≡ finished_entries r k
unfolding finished_entries
made_entries r k vs es made g c n f found view e count fault same is =
    is ∙ ap (λ xs. fitting f (good (value.Dict xs) g c)) same
    ∙ ap (λ x. fitting x (good (value.Dict es) g c)) (fault ∙ ap (λ m. length_fault r m m) count)
    ∙ ap (λ xs. fitting (length_fault r (length xs) (length xs)) (good (value.Dict xs) g c)) e
    ∙ ap (finished_entries r) view
