-- What is the same as each kind of value that holds others.
use Rattle.std.proofs.Common.{◌≡◌, ◌&&◌, ℕ, Bool, true, List, [], ◌∷◌, map, refl, sym, ap, ◌∙◌, bytes_eq}
use Rattle.std.specs.List.{list_all, list_any}
use Rattle.std.proofs.lemmas.List.Folds.{list_all-map}
use lib.Pointwise.{pointwise}
use Rattle.pv_tree.specs.declared.Value.{Value, map-Value}
use Rattle.pv_tree.specs.declared.Value.TheVariants as value
use Rattle.pv_tree.specs.declared.Value.TheVariants.{rolls-List, rolls-Tuple, rolls-Set, rolls-Frozen, rolls-Dict, rolls-Model, rolls-Root, rolls-Enum}
use Rattle.pv_tree.specs.declared.Value.TheOpen.{Value-F}
use Rattle.pv_tree.specs.declared.Value.TheViews.{out-Value, roll-Value, out-roll-Value}
use Rattle.pv_tree.specs.declared.Value.TheFolds.{fold-roll-Value}
use Rattle.pv_equality.specs.Equality.{Test, same, same_at, same_items, same_set, same_dict, same_fields, same_entry, same_field, mutual_inclusion}

-- a level whose values are given as their tests
abbrev pub tests : Value-F Value → Value-F Test
tests = map-Value Value Test same

-- the step of the fold, at a level
pub same_rolled : (x : Value-F Value) (b : Value) → same (roll-Value x) b ≡ same_at (tests x) (out-Value b)
same_rolled x b = ap (λ (f : Test). f b) (fold-roll-Value Test (λ y w. same_at y (out-Value w)) x)

module _ {A C X : Type 0} (f : A → X → Bool) (g : C → A) where
  pub any_map : (x : X) (cs : List C) → list_any (λ a. f a x) (map g cs) ≡ list_any (λ c. f (g c) x) cs
  any_map x [] = refl
  any_map x (c ∷ cs) = simp (any_map x cs)

  pub pointwise_map : (cs : List C) (xs : List X) → pointwise f (map g cs) xs ≡ pointwise (λ c x. f (g c) x) cs xs
  pointwise_map [] [] = refl
  pointwise_map [] (x ∷ xs) = refl
  pointwise_map (c ∷ cs) [] = refl
  pointwise_map (c ∷ cs) (x ∷ xs) = simp (pointwise_map cs xs)

  all_any_map : (cs : List C) (xs : List X) → list_all (λ x. list_any (λ a. f a x) (map g cs)) xs ≡ list_all (λ x. list_any (λ c. f (g c) x) cs) xs
  all_any_map cs [] = refl
  all_any_map cs (x ∷ xs) = λ i. any_map x cs i && all_any_map cs xs i

  pub inclusion_map : (cs : List C) (xs : List X) → mutual_inclusion f (map g cs) xs ≡ mutual_inclusion (λ c x. f (g c) x) cs xs
  inclusion_map cs xs = λ i. list_all-map (λ a. list_any (λ x. f a x) xs) g cs i && all_any_map cs xs i

-- two levels
pub same_levels : (x y : Value-F Value) → same (roll-Value x) (roll-Value y) ≡ same_at (tests x) y
same_levels x y = same_rolled x (roll-Value y) ∙ ap (same_at (tests x)) (out-roll-Value y)

pub same_at_levels : (a b : Value) (x y : Value-F Value) → roll-Value x ≡ a → roll-Value y ≡ b → same a b ≡ same_at (tests x) y
same_at_levels a b x y p q = (λ i. same (sym p i) (sym q i)) ∙ same_levels x y

module _ (vs ws : List Value) where
  pub items_of : (r : Bool) → r ≡ pointwise same vs ws → r ≡ same_items (map same vs) ws
  items_of r e = e ∙ sym (pointwise_map (λ (f : Test) v. f v) same vs ws)

  pub set_of : (r : Bool) → r ≡ mutual_inclusion same vs ws → r ≡ same_set (map same vs) ws
  set_of r e = e ∙ sym (inclusion_map (λ (f : Test) v. f v) same vs ws)

pub dict_of : (ds es : List (Value × Value)) (r : Bool) → r ≡ mutual_inclusion (λ d e. same d.0 e.0 && same d.1 e.1) ds es → r ≡ same_dict (map (λ d. (same d.0, same d.1)) ds) es
dict_of ds es r e = e ∙ sym (inclusion_map same_entry (λ (d : Value × Value). (same d.0, same d.1)) ds es)

pub fields_of : (ds es : List (List ℕ × Value)) (r : Bool) → r ≡ mutual_inclusion (λ d e. bytes_eq d.0 e.0 && same d.1 e.1) ds es → r ≡ same_fields (map (λ d. (d.0, same d.1)) ds) es
fields_of ds es r e = e ∙ sym (inclusion_map same_field (λ (d : List ℕ × Value). (d.0, same d.1)) ds es)

abbrev pub by_field : List ℕ × Value → List ℕ × Test
by_field d = (d.0, same d.1)

-- a model's last test decides, where the others hold
pub model_decided : (a b : Value) (c d : List ℕ) (fs gs : List (List ℕ × Value)) (s t : List (List ℕ)) (es ks : List (List ℕ × Value)) (r : Bool)
    → a ≡ value.Model c fs s es → b ≡ value.Model d gs t ks → bytes_eq c d ≡ true → same_fields (map by_field fs) gs ≡ true → r ≡ same_fields (map by_field es) ks → r ≡ same a b
model_decided a b c d fs gs s t es ks r p q h k l =
    l ∙ sym (same_at_levels a b (Value-F.Model c fs s es) (Value-F.Model d gs t ks) (rolls-Model c fs s es ∙ sym p) (rolls-Model d gs t ks ∙ sym q)
    ∙ (λ i. h i && k i && same_fields (map by_field es) ks))
