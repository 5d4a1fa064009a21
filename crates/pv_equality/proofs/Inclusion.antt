-- Tests of each and of some item of a list, and inclusion both ways.
use Rattle.std.proofs.Common.{◌≡◌, ◌&&◌, ◌||◌, ◌⊎◌, inl, inr, Bool, true, List, [], ◌∷◌, map, refl, sym, ◌∙◌, subst}
use Rattle.std.specs.List.{list_all, list_any, AllByRecursion}
use Rattle.std.proofs.lemmas.List.Folds.{list_all-map}
use Rattle.pv_equality.specs.Equality.{mutual_inclusion}
use Rattle.pv_equality.proofs.Bools.{both, first, second, on_left, on_right, either}

abbrev pub In : {X : Type 0} → X → List X → Type 0
In x [] = ⊥
In x (y ∷ ys) = (y ≡ x) ⊎ In x ys

module _ {X : Type 0} (P : X → Type 0) where
  pub at : (xs : List X) (x : X) → AllByRecursion P xs → In x xs → P x
  at [] x a i = absurd i
  at (y ∷ ys) x a (inl e) = subst P e a.0
  at (y ∷ ys) x a (inr i) = at ys x a.1 i

  pub each : (xs : List X) → ((x : X) → In x xs → P x) → AllByRecursion P xs
  each [] f = tt
  each (x ∷ xs) f = (f x (inl refl), each xs (λ y i. f y (inr i)))

  pub each_so : {Q : X → Type 0} → ((x : X) → P x → Q x) → (xs : List X) → AllByRecursion P xs → AllByRecursion Q xs
  each_so f [] a = tt
  each_so f (x ∷ xs) a = (f x a.0, each_so f xs a.1)

module _ {X : Type 0} (p : X → Bool) where
  pub all_in : (xs : List X) (x : X) → list_all p xs ≡ true → In x xs → p x ≡ true
  all_in [] x a i = absurd i
  all_in (y ∷ ys) x a (inl e) = subst (λ z. p z ≡ true) e (first (p y) (list_all p ys) a)
  all_in (y ∷ ys) x a (inr i) = all_in ys x (second (p y) (list_all p ys) a) i

  pub in_all : (xs : List X) → ((x : X) → In x xs → p x ≡ true) → list_all p xs ≡ true
  in_all [] f = refl
  in_all (x ∷ xs) f = both (f x (inl refl)) (in_all xs (λ y i. f y (inr i)))

  pub any_in : (xs : List X) → list_any p xs ≡ true → (x : X) × In x xs × (p x ≡ true)
  any_in [] a = cc
  any_in (x ∷ xs) a =
      elim (either (p x) (list_any p xs) a) [
        | inl e ↦ (x, inl refl, e)
        | inr b ↦ let k = any_in xs b in (k.0, inr k.1, k.2)
      ]

  pub in_any : (xs : List X) (x : X) → In x xs → p x ≡ true → list_any p xs ≡ true
  in_any [] x i e = absurd i
  in_any (y ∷ ys) x (inl q) e = on_left (p y) (list_any p ys) (subst (λ z. p z ≡ true) (sym q) e)
  in_any (y ∷ ys) x (inr i) e = on_right (p y) (list_any p ys) (in_any ys x i e)

-- what inclusion both ways says
module _ {A B : Type 0} (r : A → B → Bool) where
  pub record Included (xs : List A) (ys : List B) : Type 0 where
    pub among : (x : A) → In x xs → (y : B) × In y ys × (r x y ≡ true)
    pub back : (y : B) → In y ys → (x : A) × In x xs × (r x y ≡ true)

  pub told : (xs : List A) (ys : List B) → mutual_inclusion r xs ys ≡ true → Included xs ys
  told xs ys h = record {
    among = λ x i. any_in (r x) ys (all_in (λ a. list_any (r a) ys) xs x (first (list_all (λ a. list_any (r a) ys) xs) (list_all (λ b. list_any (λ a. r a b) xs) ys) h) i);
    back = λ y i. any_in (λ a. r a y) xs (all_in (λ b. list_any (λ a. r a b) xs) ys y (second (list_all (λ a. list_any (r a) ys) xs) (list_all (λ b. list_any (λ a. r a b) xs) ys) h) i);
  }

  pub tell : (xs : List A) (ys : List B) → Included xs ys → mutual_inclusion r xs ys ≡ true
  tell xs ys h =
      both (in_all (λ a. list_any (r a) ys) xs (λ x i. let k = h.among x i in in_any (r x) ys k.0 k.1 k.2))
      (in_all (λ b. list_any (λ a. r a b) xs) ys (λ y i. let k = h.back y i in in_any (λ a. r a y) xs k.0 k.1 k.2))

-- lists that are made from others
module _ {A B C D : Type 0} (r : A → B → Bool) (g : C → A) (h : D → B) where
  pub any_made : (a : A) (ds : List D) → list_any (r a) (map h ds) ≡ list_any (λ d. r a (h d)) ds
  any_made a [] = refl
  any_made a (d ∷ ds) = λ i. r a (h d) || any_made a ds i

  pub any_made_first : (b : B) (cs : List C) → list_any (λ a. r a b) (map g cs) ≡ list_any (λ c. r (g c) b) cs
  any_made_first b [] = refl
  any_made_first b (c ∷ cs) = λ i. r (g c) b || any_made_first b cs i

  pub inclusion_made : (cs : List C) (ds : List D) → mutual_inclusion r (map g cs) (map h ds) ≡ mutual_inclusion (λ c d. r (g c) (h d)) cs ds
  inclusion_made cs ds =
      (λ i. list_all-map (λ a. list_any (r a) (map h ds)) g cs i && list_all-map (λ b. list_any (λ a. r a b) (map g cs)) h ds i)
      ∙ (λ i. list_all (λ c. any_made (g c) ds i) cs && list_all (λ d. any_made_first (h d) cs i) ds)
