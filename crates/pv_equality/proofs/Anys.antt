-- Whether one of several values passes a test.
use Rattle.std.proofs.Common.{◌≡◌, Bool, true, false, ◌||◌, List, [], ◌∷◌, ◌++◌, refl}
use Rattle.std.specs.List.{list_any}
use Rattle.pv_tree.specs.declared.Value.{Value}

pub or_left : (a b : Bool) → a ≡ true → (a || b) ≡ true
or_left true b e = refl
or_left false b e = cc

pub or_right : (a b : Bool) → b ≡ true → (a || b) ≡ true
or_right true b e = refl
or_right false b e = e

pub or_more : (a b c : Bool) → (b ≡ true → c ≡ true) → (a || b) ≡ true → (a || c) ≡ true
or_more true b c h e = refl
or_more false b c h e = h e

pub or_both : (a b c d : Bool) → (a ≡ true → c ≡ true) → (b ≡ true → d ≡ true) → (a || b) ≡ true → (c || d) ≡ true
or_both true b c d f g e = or_left c d (f refl)
or_both false b c d f g e = or_right c d (g e)

pub neither_left : (a b : Bool) → (a || b) ≡ false → a ≡ false
neither_left true b e = cc
neither_left false b e = refl

pub neither_right : (a b : Bool) → (a || b) ≡ false → b ≡ false
neither_right true b e = cc
neither_right false b e = e

pub none_of_both : (a b : Bool) → a ≡ false → b ≡ false → (a || b) ≡ false
none_of_both true b e f = cc
none_of_both false b e f = f

pub not_true : (a b : Bool) → (a ≡ true → b ≡ true) → b ≡ false → a ≡ false
not_true true b f e = let t : b ≡ true = f refl in cc
not_true false b f e = refl

module _ (test : Value → Bool) where
  pub any_front : (xs ys : List Value) → list_any test xs ≡ true → list_any test (xs ++ ys) ≡ true
  any_front [] ys e = cc
  any_front (x ∷ xs) ys e = or_more (test x) (list_any test xs) (list_any test (xs ++ ys)) (any_front xs ys) e

  pub any_last : (xs : List Value) (v : Value) → test v ≡ true → list_any test (xs ++ v ∷ []) ≡ true
  any_last [] v e = or_left (test v) false e
  any_last (x ∷ xs) v e = or_right (test x) (list_any test (xs ++ v ∷ [])) (any_last xs v e)

  pub none_more : (xs : List Value) (v : Value) → list_any test xs ≡ false → test v ≡ false → list_any test (xs ++ v ∷ []) ≡ false
  none_more [] v e f = none_of_both (test v) false f refl
  none_more (x ∷ xs) v e f =
      none_of_both (test x) (list_any test (xs ++ v ∷ [])) (neither_left (test x) (list_any test xs) e) (none_more xs v (neither_right (test x) (list_any test xs) e) f)
