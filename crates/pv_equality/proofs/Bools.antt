-- Tests that are joined.
use Rattle.std.proofs.Common.{◌≡◌, ◌&&◌, ◌||◌, ◌⊎◌, inl, inr, Bool, true, false, refl, sym}

pub both : {s t : Bool} → s ≡ true → t ≡ true → (s && t) ≡ true
both p q = λ i. p i && q i

pub first : (s t : Bool) → (s && t) ≡ true → s ≡ true
first true t h = refl
first false t h = h

pub second : (s t : Bool) → (s && t) ≡ true → t ≡ true
second true t h = h
second false t h = cc

pub on_left : (s t : Bool) → s ≡ true → (s || t) ≡ true
on_left s t p = λ i. p i || t

pub on_right : (s t : Bool) → t ≡ true → (s || t) ≡ true
on_right true t p = refl
on_right false t p = p

pub either : (s t : Bool) → (s || t) ≡ true → (s ≡ true) ⊎ (t ≡ true)
either true t h = inl refl
either false t h = inr h

pub same_test : (s t : Bool) → (s ≡ true → t ≡ true) → (t ≡ true → s ≡ true) → s ≡ t
same_test true true f g = refl
same_test true false f g = sym (f refl)
same_test false true f g = g refl
same_test false false f g = refl

pub and_assoc : (a b c : Bool) → ((a && b) && c) ≡ (a && (b && c))
and_assoc true b c = refl
and_assoc false b c = refl
