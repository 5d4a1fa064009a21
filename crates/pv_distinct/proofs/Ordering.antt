-- Lists that a total order keeps strictly ascending, made by insertion.
use Rattle.std.proofs.Common.{◌≡◌, inl, inr, true, List, [], ◌∷◌, refl, sym, ap, ◌∙◌, subst}
use Rattle.std.specs.Prelude.{fold}
use Rattle.std.specs.List.{AllByRecursion}
use Rattle.std.specs.declared.cmp.Ordering.{Ordering}
use Rattle.std.specs.declared.cmp.Ordering.TheVariants.{Less, Equal, Greater}
use Rattle.std.specs.Ordering.{ordering_reverse, eq_by_cmp, is_eq, match_ordering}
use Rattle.std.specs.Cmp.{IsTotalOrder}
use Rattle.std.specs.BTreeSet.{insert_key}
use lib.Pointwise.{pointwise}
use Rattle.pv_equality.proofs.Bools.{both, first, second}
use Rattle.pv_equality.proofs.Inclusion.{In, at, each_so}

pub equal_told : (o : Ordering) → is_eq o ≡ true → o ≡ Equal
equal_told Less e = cc
equal_told Equal e = refl
equal_told Greater e = cc

module _ {K : Type 0} (cmp : K → K → Ordering) where
  abbrev pub Above : K → K → Type 0
  Above k l = cmp k l ≡ Less

  abbrev pub Ascends : List K → Type 0
  Ascends [] = Unit {0}
  Ascends (k ∷ ks) = AllByRecursion (Above k) ks × Ascends ks

  module _ (P : K → Type 0) where
    all_at : (o : Ordering) (k x : K) (xs ys : List K) → P k → AllByRecursion P (x ∷ xs) → AllByRecursion P ys → AllByRecursion P (match_ordering o (k ∷ x ∷ xs) (x ∷ xs) (x ∷ ys))
    all_at Less k x xs ys p a b = (p, a)
    all_at Equal k x xs ys p a b = a
    all_at Greater k x xs ys p a b = (a.0, b)

    pub all_inserted : (ks : List K) (k : K) → P k → AllByRecursion P ks → AllByRecursion P (insert_key cmp ks k)
    all_inserted [] k p a = (p, tt)
    all_inserted (x ∷ xs) k p a = all_at (cmp k x) k x xs (insert_key cmp xs k) p a (all_inserted xs k p a.1)

    pub all_ordered : (done ks : List K) → AllByRecursion P done → AllByRecursion P ks → AllByRecursion P (fold (insert_key cmp) done ks)
    all_ordered done [] d a = d
    all_ordered done (k ∷ ks) d a = all_ordered (insert_key cmp done k) ks (all_inserted done k a.0 d) a.1

  kept_at : (o : Ordering) (k x y : K) (xs ys : List K) → In y (x ∷ xs) → (In y xs → In y ys) → In y (match_ordering o (k ∷ x ∷ xs) (x ∷ xs) (x ∷ ys))
  kept_at Less k x y xs ys i f = inr i
  kept_at Equal k x y xs ys i f = i
  kept_at Greater k x y xs ys (inl e) f = inl e
  kept_at Greater k x y xs ys (inr i) f = inr (f i)

  kept_inserted : (ks : List K) (k y : K) → In y ks → In y (insert_key cmp ks k)
  kept_inserted [] k y i = absurd i
  kept_inserted (x ∷ xs) k y i = kept_at (cmp k x) k x y xs (insert_key cmp xs k) i (kept_inserted xs k y)

  pub kept : (done ks : List K) (y : K) → In y done → In y (fold (insert_key cmp) done ks)
  kept done [] y i = i
  kept done (k ∷ ks) y i = kept (insert_key cmp done k) ks y (kept_inserted done k y i)

  module _ (total : IsTotalOrder cmp) where
    itself : (k : K) → cmp k k ≡ Equal
    itself k = by (cmp k k) (total.antisymm k k)
      where
        by : (o : Ordering) → o ≡ ordering_reverse o → o ≡ Equal
        by Less e = cc
        by Equal e = refl
        by Greater e = cc

    ascends_at : (o : Ordering) (k x : K) (xs : List K) → cmp k x ≡ o → Ascends (x ∷ xs) → Ascends (insert_key cmp xs k) → Ascends (match_ordering o (k ∷ x ∷ xs) (x ∷ xs) (x ∷ insert_key cmp xs k))
    ascends_at Less k x xs e a b = ((e, each_so (Above x) (λ y h. total.trans k x y e h) xs a.0), a)
    ascends_at Equal k x xs e a b = a
    ascends_at Greater k x xs e a b = (all_inserted (Above x) xs k (total.antisymm x k ∙ ap ordering_reverse e) a.0, b)

    ascends_inserted : (ks : List K) (k : K) → Ascends ks → Ascends (insert_key cmp ks k)
    ascends_inserted [] k a = (tt, tt)
    ascends_inserted (x ∷ xs) k a = ascends_at (cmp k x) k x xs refl a (ascends_inserted xs k a.1)

    pub ascends : (done ks : List K) → Ascends done → Ascends (fold (insert_key cmp) done ks)
    ascends done [] a = a
    ascends done (k ∷ ks) a = ascends (insert_key cmp done k) ks (ascends_inserted done k a)

    abbrev pub Like : K → List K → Type 0
    Like k ks = (x : K) × In x ks × (cmp k x ≡ Equal)

    has_at : (o : Ordering) (k x : K) (xs : List K) → cmp k x ≡ o → Like k (insert_key cmp xs k) → Like k (match_ordering o (k ∷ x ∷ xs) (x ∷ xs) (x ∷ insert_key cmp xs k))
    has_at Less k x xs e l = (k, inl refl, itself k)
    has_at Equal k x xs e l = (x, inl refl, e)
    has_at Greater k x xs e l = (l.0, inr l.1, l.2)

    has_inserted : (ks : List K) (k : K) → Like k (insert_key cmp ks k)
    has_inserted [] k = (k, inl refl, itself k)
    has_inserted (x ∷ xs) k = has_at (cmp k x) k x xs refl (has_inserted xs k)

    pub has : (done ks : List K) (k : K) → In k ks → Like k (fold (insert_key cmp) done ks)
    has done [] k i = absurd i
    has done (x ∷ xs) k (inl e) =
        let l = has_inserted done x in (l.0, kept (insert_key cmp done x) xs l.0 l.1, subst (λ y. cmp y l.0 ≡ Equal) e l.2)
    has done (x ∷ xs) k (inr i) = has (insert_key cmp done x) xs k i

    back : (x y : K) (o : Ordering) → cmp x y ≡ o → cmp y x ≡ ordering_reverse o
    back x y o e = total.antisymm y x ∙ ap ordering_reverse e

    -- two ascending lists of the same keys
    abbrev Among : List K → List K → Type 0
    Among xs ys = (x : K) → In x xs → Like x ys

    abbrev Back : List K → List K → Type 0
    Back xs ys = (y : K) → In y ys → (x : K) × In x xs × (cmp x y ≡ Equal)

    rest_among : (x y : K) (xs ys : List K) → cmp x y ≡ Equal → AllByRecursion (Above x) xs → Among (x ∷ xs) (y ∷ ys) → Among xs ys
    rest_among x y xs ys e a m z i =
        let l = m z (inr i) in
        elim l.1 [
          | inl q ↦
              let p : cmp x z ≡ Less = at (Above x) xs z a i in
              let b : cmp z y ≡ Greater = back y z Less (sym (total.congr x y z e) ∙ p) in
              let c : cmp z y ≡ Equal = subst (λ w. cmp z w ≡ Equal) (sym q) l.2 in
              cc
          | inr j ↦ (l.0, j, l.2)
        ]

    rest_back : (x y : K) (xs ys : List K) → cmp x y ≡ Equal → AllByRecursion (Above y) ys → Back (x ∷ xs) (y ∷ ys) → Back xs ys
    rest_back x y xs ys e a m z i =
        let l = m z (inr i) in
        elim l.1 [
          | inl q ↦
              let p : cmp y z ≡ Less = at (Above y) ys z a i in
              let b : cmp x z ≡ Less = total.congr x y z e ∙ p in
              let c : cmp x z ≡ Equal = subst (λ w. cmp w z ≡ Equal) (sym q) l.2 in
              cc
          | inr j ↦ (l.0, j, l.2)
        ]

    heads : (o : Ordering) (x y : K) (xs ys : List K) → cmp x y ≡ o → Ascends (x ∷ xs) → Ascends (y ∷ ys) → Among (x ∷ xs) (y ∷ ys) → Back (x ∷ xs) (y ∷ ys) → cmp x y ≡ Equal
    heads Equal x y xs ys e a b m n = e
    heads Less x y xs ys e a b m n =
        let l = m x (inl refl) in
        elim l.1 [
          | inl q ↦ subst (λ w. cmp x w ≡ Equal) (sym q) l.2
          | inr j ↦
              let p : cmp x l.0 ≡ Less = total.trans x y l.0 e (at (Above y) ys l.0 b.0 j) in
              let c : cmp x l.0 ≡ Equal = l.2 in
              cc
        ]
    heads Greater x y xs ys e a b m n =
        let l = n y (inl refl) in
        elim l.1 [
          | inl q ↦ subst (λ w. cmp w y ≡ Equal) (sym q) l.2
          | inr j ↦
              let p : cmp y l.0 ≡ Less = total.trans y x l.0 (back x y Greater e) (at (Above x) xs l.0 a.0 j) in
              let c : cmp y l.0 ≡ Equal = back l.0 y Equal l.2 in
              cc
        ]

    pub same_lists : (xs ys : List K) → Ascends xs → Ascends ys → Among xs ys → Back xs ys → pointwise (eq_by_cmp cmp) xs ys ≡ true
    same_lists [] [] a b m n = refl
    same_lists [] (y ∷ ys) a b m n = absurd (n y (inl refl)).1
    same_lists (x ∷ xs) [] a b m n = absurd (m x (inl refl)).1
    same_lists (x ∷ xs) (y ∷ ys) a b m n =
        let e : cmp x y ≡ Equal = heads (cmp x y) x y xs ys refl a b m n in
        both (ap is_eq e) (same_lists xs ys a.1 b.1 (rest_among x y xs ys e a.0 m) (rest_back x y xs ys e b.0 n))

  -- what stands at one place of both lists
  pub like_among : (xs ys : List K) → pointwise (eq_by_cmp cmp) xs ys ≡ true → (x : K) → In x xs → (y : K) × In y ys × (eq_by_cmp cmp x y ≡ true)
  like_among [] ys h x i = absurd i
  like_among (z ∷ xs) [] h x i = cc
  like_among (z ∷ xs) (y ∷ ys) h x (inl e) = (y, inl refl, subst (λ w. eq_by_cmp cmp w y ≡ true) e (first (eq_by_cmp cmp z y) (pointwise (eq_by_cmp cmp) xs ys) h))
  like_among (z ∷ xs) (y ∷ ys) h x (inr i) = let l = like_among xs ys (second (eq_by_cmp cmp z y) (pointwise (eq_by_cmp cmp) xs ys) h) x i in (l.0, inr l.1, l.2)

  pub like_back : (xs ys : List K) → pointwise (eq_by_cmp cmp) xs ys ≡ true → (y : K) → In y ys → (x : K) × In x xs × (eq_by_cmp cmp x y ≡ true)
  like_back xs [] h y i = absurd i
  like_back [] (z ∷ ys) h y i = cc
  like_back (x ∷ xs) (z ∷ ys) h y (inl e) = (x, inl refl, subst (λ w. eq_by_cmp cmp x w ≡ true) e (first (eq_by_cmp cmp x z) (pointwise (eq_by_cmp cmp) xs ys) h))
  like_back (x ∷ xs) (z ∷ ys) h y (inr i) = let l = like_back xs ys (second (eq_by_cmp cmp x z) (pointwise (eq_by_cmp cmp) xs ys) h) y i in (l.0, inr l.1, l.2)
