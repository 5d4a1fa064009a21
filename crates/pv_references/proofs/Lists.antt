-- Items of lists by their numbers.
use Rattle.std.proofs.Common.{◌≡◌, ℕ, zero, suc, ◌+◌, List, [], ◌∷◌, ◌++◌, length, take, drop, slice_get, Some, None, is_some, true≢false, unwrap_or, refl, ap, sym, ◌∙◌, arith}

module _ {X : Type 0} where
  -- a list to the item of a number, and from it on
  pub take_here : (xs : List X) (i : ℕ) (x : X) → slice_get xs i ≡ Some x → take (i + 1) xs ≡ take i xs ++ x ∷ []
  take_here [] i x e = absurd (true≢false (sym (ap is_some e)))
  take_here (y ∷ xs) zero x e = ap (λ z. z ∷ []) (ap (λ o. unwrap_or o y) e)
  take_here (y ∷ xs) (suc i) x e =
      let next : suc i + 1 ≡ suc (i + 1) = omega arith in
      ap (λ k. take k (y ∷ xs)) next ∙ ap (λ zs. y ∷ zs) (take_here xs i x e)

  pub drop_here : (xs : List X) (i : ℕ) (x : X) → slice_get xs i ≡ Some x → drop i xs ≡ x ∷ drop (i + 1) xs
  drop_here [] i x e = absurd (true≢false (sym (ap is_some e)))
  drop_here (y ∷ xs) zero x e = ap (λ z. z ∷ xs) (ap (λ o. unwrap_or o y) e)
  drop_here (y ∷ xs) (suc i) x e =
      let next : suc i + 1 ≡ suc (i + 1) = omega arith in
      drop_here xs i x e ∙ sym (ap (λ k. x ∷ drop k (y ∷ xs)) next)

  pub take_past : (xs : List X) (i : ℕ) → slice_get xs i ≡ None → take i xs ≡ xs
  take_past [] zero e = refl
  take_past [] (suc i) e = refl
  take_past (x ∷ xs) zero e = absurd (true≢false (ap is_some e))
  take_past (x ∷ xs) (suc i) e = ap (λ ys. x ∷ ys) (take_past xs i e)

  pub drop_past : (xs : List X) (i : ℕ) → slice_get xs i ≡ None → drop i xs ≡ []
  drop_past [] zero e = refl
  drop_past [] (suc i) e = refl
  drop_past (x ∷ xs) zero e = absurd (true≢false (ap is_some e))
  drop_past (x ∷ xs) (suc i) e = drop_past xs i e

  -- the first behind some others
  pub get_behind : (xs : List X) (x : X) (ys : List X) → slice_get (xs ++ x ∷ ys) (length xs) ≡ Some x
  get_behind [] x ys = refl
  get_behind (y ∷ xs) x ys = get_behind xs x ys
