-- Keys that are some of distinct names are distinct.
use Rattle.std.proofs.Common.{◌≡◌, ℕ, Bool, true, false, cond, List, [], ◌∷◌, map, refl, sym, ap, ◌∙◌, bytes_eq}
use Rattle.std.specs.List.{AllByRecursion, IsDistinct, list_any}
use Rattle.std.proofs.lemmas.Slice.Eq.{bytes_eq-Decides}
use Rattle.pv_tree.specs.Names.{HasDistinctNames}
use Rattle.pv_tree.specs.declared.Tree.{Tree}
use Rattle.pv_tree.specs.declared.Value.{Value}
use Rattle.pv_tree.specs.declared.Value.TheOpen.{Value-F}
use Rattle.pv_tree.specs.declared.Value.TheViews.{roll-Value, out-Value, roll-out-Value}
use Rattle.pv_equality.specs.Equality.{is_str, same}
use Rattle.pv_equality.specs.Merging.{AreDistinct, merged_entries}
use Rattle.pv_equality.proofs.Anys.{none_of_both, not_true}
use Rattle.pv_equality.proofs.Merging.{entries_stay}
use Rattle.pv_equality.proofs.SameLevels.{same_levels}
use Rattle.pv_fields.specs.Planned.{among}

abbrev keys : List (Value × Value) → List Value
keys es = map (λ e. e.0) es

-- values that are two texts are the same where the texts are
names_levels : (n m : List ℕ) (x y : Value-F Value) → is_str n x ≡ true → is_str m y ≡ true → same (roll-Value x) (roll-Value y) ≡ true → bytes_eq n m ≡ true
names_levels n m (Value-F.Str t) (Value-F.Str u) h g s =
    (λ i. bytes_eq ((bytes_eq-Decides n t).0 h i) ((bytes_eq-Decides m u).0 g i)) ∙ sym (same_levels (Value-F.Str t) (Value-F.Str u)) ∙ s
names_levels n m (Value-F.Str t) y h g s = cc
names_levels n m x y h g s = cc

names_told : (n m : List ℕ) (v w : Value) → is_str n (out-Value v) ≡ true → is_str m (out-Value w) ≡ true → same v w ≡ true → bytes_eq n m ≡ true
names_told n m v w h g s = names_levels n m (out-Value v) (out-Value w) h g ((λ i. same (roll-out-Value v i) (roll-out-Value w i)) ∙ s)

module _ (m : List ℕ × Tree) (ms : List (List ℕ × Tree)) (e : Value × Value) (es : List (Value × Value)) where
  none_by : (b : Bool) (n : List ℕ) (v : Value) → is_str m.0 (out-Value e.0) ≡ b → is_str n (out-Value v) ≡ true → bytes_eq n m.0 ≡ false
      → (among ms es ≡ true → list_any (same v) (keys es) ≡ false) → (among ms (e ∷ es) ≡ true → list_any (same v) (keys (e ∷ es)) ≡ false)
      → cond b (among ms es) (among ms (e ∷ es)) ≡ true → list_any (same v) (keys (e ∷ es)) ≡ false
  none_by true n v h g other f k p =
      none_of_both (same v e.0) (list_any (same v) (keys es)) (not_true (same v e.0) (bytes_eq n m.0) (names_told n m.0 v e.0 g h) other) (f p)
  none_by false n v h g other f k p = k p

none_among : (n : List ℕ) (v : Value) (ms : List (List ℕ × Tree)) (es : List (Value × Value)) → is_str n (out-Value v) ≡ true
    → AllByRecursion (λ m. bytes_eq n m ≡ false) (map (λ m. m.0) ms) → among ms es ≡ true → list_any (same v) (keys es) ≡ false
none_among n v [] [] h a p = refl
none_among n v [] (e ∷ es) h a p = cc
none_among n v (m ∷ ms) [] h a p = refl
none_among n v (m ∷ ms) (e ∷ es) h a p =
    none_by m ms e es (is_str m.0 (out-Value e.0)) n v refl h a.0 (none_among n v ms es h a.1) (none_among n v ms (e ∷ es) h a.1) p

told : (b : Bool) (P : Type 0) → (b ≡ true → P) → (b ≡ false → P) → P
told true P f g = f refl
told false P f g = g refl

among_distinct : (ms : List (List ℕ × Tree)) (es : List (Value × Value)) → HasDistinctNames ms → among ms es ≡ true → AreDistinct (keys es)
unfolding IsDistinct
among_distinct [] [] d p = tt
among_distinct [] (e ∷ es) d p = cc
among_distinct (m ∷ ms) [] d p = tt
among_distinct (m ∷ ms) (e ∷ es) d p =
    told (is_str m.0 (out-Value e.0)) (AreDistinct (keys (e ∷ es)))
    (λ h. (
      none_among m.0 e.0 ms es h d.0 (sym (ap (λ b. cond b (among ms es) (among ms (e ∷ es))) h) ∙ p),
      among_distinct ms es d.1 (sym (ap (λ b. cond b (among ms es) (among ms (e ∷ es))) h) ∙ p),
    ))
    (λ h. among_distinct ms (e ∷ es) d.1 (sym (ap (λ b. cond b (among ms es) (among ms (e ∷ es))) h) ∙ p))

-- so that entries with such keys are merged as they stand
pub entries_among : (ms : List (List ℕ × Tree)) (es : List (Value × Value)) (b : Bool) → HasDistinctNames ms → b ≡ among ms es → b ≡ true → es ≡ merged_entries es
entries_among ms es b d is found = sym (entries_stay es (among_distinct ms es d (sym is ∙ found)))
