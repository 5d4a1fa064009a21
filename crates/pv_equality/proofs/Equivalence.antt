-- Reflexivity, symmetry and transitivity at one item, and how they pass to lists of such items.
use Rattle.std.proofs.Common.{◌≡◌, Bool, true, List, [], ◌∷◌, refl}
use Rattle.std.specs.List.{AllByRecursion}
use lib.Pointwise.{pointwise}
use Rattle.pv_equality.specs.Equality.{mutual_inclusion}
use Rattle.pv_equality.proofs.Bools.{both, first, second}
use Rattle.pv_equality.proofs.Inclusion.{at, told, tell}

module _ {X : Type 0} (f : X → X → Bool) where
  abbrev pub Refl : X → Type 0
  Refl x = f x x ≡ true

  abbrev pub Symm : X → Type 0
  Symm x = (y : X) → f x y ≡ true → f y x ≡ true

  abbrev pub Trans : X → Type 0
  Trans x = (y z : X) → f x y ≡ true → f y z ≡ true → f x z ≡ true

  pub items_refl : (xs : List X) → AllByRecursion Refl xs → pointwise f xs xs ≡ true
  items_refl [] a = refl
  items_refl (x ∷ xs) a = both a.0 (items_refl xs a.1)

  pub items_symm : (xs : List X) → AllByRecursion Symm xs → (ys : List X) → pointwise f xs ys ≡ true → pointwise f ys xs ≡ true
  items_symm [] a [] h = refl
  items_symm [] a (y ∷ ys) h = cc
  items_symm (x ∷ xs) a [] h = cc
  items_symm (x ∷ xs) a (y ∷ ys) h = both (a.0 y (first (f x y) (pointwise f xs ys) h)) (items_symm xs a.1 ys (second (f x y) (pointwise f xs ys) h))

  pub items_trans : (xs : List X) → AllByRecursion Trans xs → (ys zs : List X) → pointwise f xs ys ≡ true → pointwise f ys zs ≡ true → pointwise f xs zs ≡ true
  items_trans [] a [] zs h k = k
  items_trans [] a (y ∷ ys) zs h k = cc
  items_trans (x ∷ xs) a [] zs h k = cc
  items_trans (x ∷ xs) a (y ∷ ys) [] h k = cc
  items_trans (x ∷ xs) a (y ∷ ys) (z ∷ zs) h k =
      both (a.0 y z (first (f x y) (pointwise f xs ys) h) (first (f y z) (pointwise f ys zs) k))
      (items_trans xs a.1 ys zs (second (f x y) (pointwise f xs ys) h) (second (f y z) (pointwise f ys zs) k))

  pub sets_refl : (xs : List X) → AllByRecursion Refl xs → mutual_inclusion f xs xs ≡ true
  sets_refl xs a = tell f xs xs (record { among = λ x i. (x, i, at Refl xs x a i); back = λ x i. (x, i, at Refl xs x a i) })

  pub sets_symm : (xs : List X) → AllByRecursion Symm xs → (ys : List X) → mutual_inclusion f xs ys ≡ true → mutual_inclusion f ys xs ≡ true
  sets_symm xs a ys h =
      let k = told f xs ys h in
      tell f ys xs (record {
        among = λ y i. let x = k.back y i in (x.0, x.1, at Symm xs x.0 a x.1 y x.2);
        back = λ x i. let y = k.among x i in (y.0, y.1, at Symm xs x a i y.0 y.2);
      })

  pub sets_trans : (xs : List X) → AllByRecursion Trans xs → (ys zs : List X) → mutual_inclusion f xs ys ≡ true → mutual_inclusion f ys zs ≡ true → mutual_inclusion f xs zs ≡ true
  sets_trans xs a ys zs h g =
      let k = told f xs ys h in
      let l = told f ys zs g in
      tell f xs zs (record {
        among = λ x i. let y = k.among x i in let z = l.among y.0 y.1 in (z.0, z.1, at Trans xs x a i y.0 z.0 y.2 z.2);
        back = λ z i. let y = l.back z i in let x = k.back y.0 y.1 in (x.0, x.1, at Trans xs x.0 a x.1 y.0 z x.2 y.2);
      })
