-- Keys that are distinct names.
use Rattle.std.proofs.Common.{◌≡◌, ℕ, Bool, true, false, List, [], ◌∷◌, map, refl, sym, ◌∙◌, bytes_eq}
use Rattle.std.specs.List.{AllByRecursion, IsDistinct, list_any}
use Rattle.std.proofs.lemmas.Slice.Eq.{bytes_eq-Decides}
use lib.Pointwise.{pointwise}
use Rattle.pv_tree.specs.Names.{HasDistinctNames}
use Rattle.pv_tree.specs.declared.tree.Tree.{Tree}
use Rattle.pv_tree.specs.declared.Value.{Value}
use Rattle.pv_tree.specs.declared.Value.TheOpen.{Value-F}
use Rattle.pv_tree.specs.declared.Value.TheViews.{roll-Value, out-Value, roll-out-Value}
use Rattle.pv_equality.specs.Equality.{is_str, same}
use Rattle.pv_equality.specs.Merging.{AreDistinct}
use Rattle.pv_equality.proofs.Anys.{none_of_both, not_true}
use Rattle.pv_equality.proofs.Bools.{first, second}
use Rattle.pv_equality.proofs.SameLevels.{same_levels}

-- the key is the member's name
abbrev pub is_named : List ℕ × Tree → Value × Value → Bool
is_named m e = is_str m.0 (out-Value e.0)

abbrev keys : List (Value × Value) → List Value
keys es = map (λ e. e.0) es

-- values that are two texts are the same where the texts are
names_levels : (n m : List ℕ) (x y : Value-F Value) → is_str n x ≡ true → is_str m y ≡ true → same (roll-Value x) (roll-Value y) ≡ true → bytes_eq n m ≡ true
names_levels n m (Value-F.Str t) (Value-F.Str u) h g s =
    (λ i. bytes_eq ((bytes_eq-Decides n t).0 h i) ((bytes_eq-Decides m u).0 g i)) ∙ sym (same_levels (Value-F.Str t) (Value-F.Str u)) ∙ s
names_levels n m (Value-F.Str t) y h g s = cc
names_levels n m x y h g s = cc

names_told : (n m : List ℕ) (v w : Value) → is_str n (out-Value v) ≡ true → is_str m (out-Value w) ≡ true → same v w ≡ true → bytes_eq n m ≡ true
names_told n m v w h g s = names_levels n m (out-Value v) (out-Value w) h g ((λ i. same (roll-out-Value v i) (roll-out-Value w i)) ∙ s)

none_named : (n : List ℕ) (v : Value) (ms : List (List ℕ × Tree)) (es : List (Value × Value)) → is_str n (out-Value v) ≡ true → pointwise is_named ms es ≡ true
    → AllByRecursion (λ m. bytes_eq n m ≡ false) (map (λ m. m.0) ms) → list_any (same v) (keys es) ≡ false
none_named n v [] [] h p a = refl
none_named n v [] (e ∷ es) h p a = cc
none_named n v (m ∷ ms) [] h p a = cc
none_named n v (m ∷ ms) (e ∷ es) h p a =
    none_of_both (same v e.0) (list_any (same v) (keys es))
    (not_true (same v e.0) (bytes_eq n m.0) (names_told n m.0 v e.0 h (first (is_named m e) (pointwise is_named ms es) p)) a.0)
    (none_named n v ms es h (second (is_named m e) (pointwise is_named ms es) p) a.1)

pub named_distinct : (ms : List (List ℕ × Tree)) (es : List (Value × Value)) → pointwise is_named ms es ≡ true → HasDistinctNames ms → AreDistinct (keys es)
unfolding IsDistinct
named_distinct [] [] p d = tt
named_distinct [] (e ∷ es) p d = cc
named_distinct (m ∷ ms) [] p d = cc
named_distinct (m ∷ ms) (e ∷ es) p d = (
  none_named m.0 e.0 ms es (first (is_named m e) (pointwise is_named ms es) p) (second (is_named m e) (pointwise is_named ms es) p) d.0,
  named_distinct ms es (second (is_named m e) (pointwise is_named ms es) p) d.1,
)
