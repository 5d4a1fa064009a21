-- A list of values with a proof beside each.
use Rattle.std.proofs.Common.{◌≡◌, ℕ, ◌+◌, ◌<◌, ◌≤◌, List, [], ◌∷◌, All, length, get_or, take, map, refl, ap, subst}
use Rattle.std.specs.List.{AllByRecursion}
use Rattle.std.proofs.lemmas.List.{take_all}
use Rattle.std.proofs.lemmas.List.Elements.{All-more}

abbrev pub Held : {X : Type 0} → (X → Type 0) → Type 0
Held {X} P = (x : X) × P x

module _ {X : Type 0} (P : X → Type 0) where
  pub all_hold : (xs : List X) → AllByRecursion P xs → (es : List (Held P)) × (map (λ e. e.0) es ≡ xs)
  all_hold [] h = ([], refl)
  all_hold (x ∷ xs) h = let k = all_hold xs h.1 in ((x, h.0) ∷ k.0, ap (λ ys. x ∷ ys) k.1)

  pub named_hold : (ms : List (List ℕ × X)) → AllByRecursion (λ m. P m.1) ms → (es : List (List ℕ × Held P)) × (map (λ m. (m.0, m.1.0)) es ≡ ms)
  named_hold [] h = ([], refl)
  named_hold (m ∷ ms) h = let k = named_hold ms h.1 in ((m.0, (m.1, h.0)) ∷ k.0, ap (λ ys. m ∷ ys) k.1)

  pub entries_hold : (es : List (X × X)) → AllByRecursion (λ e. P e.0 × P e.1) es → (ks : List (Held P × Held P)) × (map (λ e. (e.0.0, e.1.0)) ks ≡ es)
  entries_hold [] h = ([], refl)
  entries_hold (e ∷ es) h = let k = entries_hold es h.1 in (((e.0, h.0.0), (e.1, h.0.1)) ∷ k.0, ap (λ ys. e ∷ ys) k.1)

-- a loop over a list that has shown P of each item so far
module _ {X : Type 0} (P : X → Type 0) (xs : List X) (i : ℕ) where
  pub one_more : (x : X) → i < length xs → x ≡ get_or xs i x → P x → All P (take i xs) → All P (take (i + 1) xs)
  one_more x l e p h = All-more P xs i x l h (subst P e p)

  pub all_of : length xs ≤ i → All P (take i xs) → All P xs
  all_of l h = subst (All P) (take_all i xs l) h
