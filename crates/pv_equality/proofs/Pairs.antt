-- Two lists that a loop compares pair by pair.
use Rattle.std.proofs.Common.{◌≡◌, ℕ, zero, suc, ◌+◌, ◌<◌, ◌≤◌, Bool, true, false, List, [], ◌∷◌, length, take, get_or, refl, sym, ◌∙◌, add-one, arith}
use Rattle.std.proofs.lemmas.Bool.{and_left, and_right}
use Rattle.std.proofs.lemmas.List.{take_all}
use lib.Pointwise.{pointwise}
use Rattle.pv_equality.proofs.Bools.{both, first, second}

module _ {A B : Type 0} (f : A → B → Bool) where
  one_more : (xs : List A) (ys : List B) (i : ℕ) (a : A) (b : B) → i < length xs → i < length ys
      → f (get_or xs i a) (get_or ys i b) ≡ true → pointwise f (take i xs) (take i ys) ≡ true → pointwise f (take (suc i) xs) (take (suc i) ys) ≡ true
  one_more [] ys i a b h g e k = absurd (omega arith)
  one_more (x ∷ xs) [] i a b h g e k = absurd (omega arith)
  one_more (x ∷ xs) (y ∷ ys) zero a b h g e k = both e refl
  one_more (x ∷ xs) (y ∷ ys) (suc i) a b h g e k =
      both (first (f x y) (pointwise f (take i xs) (take i ys)) k)
      (one_more xs ys i a b (omega arith) (omega arith) e (second (f x y) (pointwise f (take i xs) (take i ys)) k))

  pub more : (xs : List A) (ys : List B) (i : ℕ) (a : A) (b : B) → i < length xs → length xs ≡ length ys
      → f (get_or xs i a) (get_or ys i b) ≡ true → pointwise f (take i xs) (take i ys) ≡ true → pointwise f (take (i + 1) xs) (take (i + 1) ys) ≡ true
  more xs ys i a b h g e k = rw add-one (one_more xs ys i a b h (omega arith) e k)

  unlike : (xs : List A) (ys : List B) (i : ℕ) (a : A) (b : B) → i < length xs → i < length ys → f (get_or xs i a) (get_or ys i b) ≡ false → pointwise f xs ys ≡ false
  unlike [] ys i a b h g e = absurd (omega arith)
  unlike (x ∷ xs) [] i a b h g e = refl
  unlike (x ∷ xs) (y ∷ ys) zero a b h g e = and_left (f x y) (pointwise f xs ys) e
  unlike (x ∷ xs) (y ∷ ys) (suc i) a b h g e = and_right (f x y) (pointwise f xs ys) (unlike xs ys i a b (omega arith) (omega arith) e)

  pub not_all : (xs : List A) (ys : List B) (i : ℕ) (a : A) (b : B) → i < length xs → length xs ≡ length ys → f (get_or xs i a) (get_or ys i b) ≡ false → false ≡ pointwise f xs ys
  not_all xs ys i a b h g e = sym (unlike xs ys i a b h (omega arith) e)

  pub all_pairs : (xs : List A) (ys : List B) (i : ℕ) → length xs ≤ i → length xs ≡ length ys → pointwise f (take i xs) (take i ys) ≡ true → true ≡ pointwise f xs ys
  all_pairs xs ys i h g e = sym ((λ j. pointwise f (sym (take_all i xs (omega arith)) j) (sym (take_all i ys (omega arith)) j)) ∙ e)
