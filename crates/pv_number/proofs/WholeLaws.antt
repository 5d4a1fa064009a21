-- Each number has exactly one of the three answers.
use Rattle.std.proofs.Common.{◌≡◌, ℕ, zero, suc, ◌+◌, ◌*◌, ◌/◌, ◌%◌, ◌^◌, ◌<◌, Bool, true, false, ltb, ℤ, pos, negsuc, neg_ℤ, ◌*ℤ◌, refl, sym, ap, ◌∙◌, subst, inl, inr, arith}
use Rattle.std.proofs.Math.Nat.{mul-mod_left}
use Rattle.std.proofs.lemmas.Bool.{ltb-true, ltb-false}
use Rattle.std.proofs.lemmas.Nat.{div-add-mod'}
use Rattle.std.proofs.lemmas.Int.{unsigned_abs-mul}
use Rattle.std.specs.Prelude.{FitsSigned, unsigned_abs, ◌⊎◌}
use Rattle.std.specs.Int.{w128}
use Rattle.pv_number.specs.ExactNumber.{Number, IsProduct, HasValue, IsWhole}
use Rattle.pv_number.specs.declared.exact.Whole.{Whole}
use Rattle.pv_number.specs.declared.exact.Whole.TheVariants.{Fits, TooBig, Fraction}
use Rattle.pv_number.proofs.WholeValue.{one_value}

pub one_answer : (a : Number) (v w : Whole) → IsWhole a v → IsWhole a w → v ≡ w
one_answer a (Fits n) (Fits k) p q = ap Fits (one_value a n k p.0 q.0)
one_answer a (Fits n) TooBig p q = absurd (q.2 (subst (λ i. FitsSigned w128 i) (one_value a n q.0 p.0 q.1) p.1))
one_answer a (Fits n) Fraction p q = absurd (q n p.0)
one_answer a TooBig (Fits k) p q = absurd (p.2 (subst (λ i. FitsSigned w128 i) (one_value a k p.0 q.0 p.1) q.1))
one_answer a TooBig TooBig p q = refl
one_answer a TooBig Fraction p q = absurd (q p.0 p.1)
one_answer a Fraction (Fits k) p q = absurd (p k q.0)
one_answer a Fraction TooBig p q = absurd (p q.0 q.1)
one_answer a Fraction Fraction p q = refl

fits_or_not : (n : ℤ) → FitsSigned w128 n ⊎ (FitsSigned w128 n → ⊥)
fits_or_not (pos a) = by (ltb a (2 ^ 127)) refl
  where
    by : (x : Bool) → ltb a (2 ^ 127) ≡ x → FitsSigned w128 (pos a) ⊎ (FitsSigned w128 (pos a) → ⊥)
    by true e = inl (record { sfits = ltb-true a (2 ^ 127) e })
    by false e = inr (λ f. let h = f.sfits in let g = ltb-false a (2 ^ 127) e in absurd (omega arith))
fits_or_not (negsuc a) = by (ltb a (2 ^ 127)) refl
  where
    by : (x : Bool) → ltb a (2 ^ 127) ≡ x → FitsSigned w128 (negsuc a) ⊎ (FitsSigned w128 (negsuc a) → ⊥)
    by true e = inl (record { sfits = ltb-true a (2 ^ 127) e })
    by false e = inr (λ f. let h = f.sfits in let g = ltb-false a (2 ^ 127) e in absurd (omega arith))

valued : (a : Number) (n : ℤ) → HasValue a n → (w : Whole) × IsWhole a w
valued a n has = elim (fits_or_not n) [ inl f ↦ (Fits n, (has, f)) | inr f ↦ (TooBig, (n, has, f)) ]

-- what does not divide the size is no factor
no_factor : (m n : ℤ) (p : ℕ) → 0 < unsigned_abs m % p → m ≡ n *ℤ pos p → ⊥
no_factor m n p some is =
    let size : unsigned_abs m ≡ unsigned_abs n * p = ap unsigned_abs is ∙ unsigned_abs-mul n (pos p) in
    let none : unsigned_abs m % p ≡ 0 = ap (λ k. k % p) size ∙ mul-mod_left (unsigned_abs n) p in
    absurd (omega arith)

quotient : (m : ℤ) (p : ℕ) → unsigned_abs m % p ≡ 0 → (n : ℤ) × (m ≡ n *ℤ pos p)
quotient (pos a) p none = (pos (a / p), ap pos (omega (arith, div-add-mod' a p)))
quotient (negsuc a) p none = by (suc a / p) (omega (arith, div-add-mod' (suc a) p))
  where
    by : (q : ℕ) → q * p ≡ suc a → (n : ℤ) × (negsuc a ≡ n *ℤ pos p)
    by zero e = absurd (let none : 0 * p ≡ 0 = omega arith in omega arith)
    by (suc q) e = (negsuc q, sym (ap (λ k. neg_ℤ (pos k)) e))

divided : (m : ℤ) (e : ℕ) → ((n : ℤ) × (m ≡ n *ℤ pos (10 ^ (e + 1)))) ⊎ ((n : ℤ) → m ≡ n *ℤ pos (10 ^ (e + 1)) → ⊥)
divided m e = by (unsigned_abs m % 10 ^ (e + 1)) refl
  where
    by : (r : ℕ) → unsigned_abs m % 10 ^ (e + 1) ≡ r → ((n : ℤ) × (m ≡ n *ℤ pos (10 ^ (e + 1)))) ⊎ ((n : ℤ) → m ≡ n *ℤ pos (10 ^ (e + 1)) → ⊥)
    by zero is = inl (quotient m (10 ^ (e + 1)) is)
    by (suc r) is = inr (λ n has. no_factor m n (10 ^ (e + 1)) (omega arith) has)

product_or_not : (m e : ℤ) → ((n : ℤ) × IsProduct m e n) ⊎ ((n : ℤ) → IsProduct m e n → ⊥)
product_or_not m (pos e) = inl (m *ℤ pos (10 ^ e), refl)
product_or_not m (negsuc e) = divided m e

pub some_answer : (a : Number) → (w : Whole) × IsWhole a w
some_answer a = elim (product_or_not a.significand a.exponent) [ inl v ↦ valued a v.0 v.1 | inr none ↦ (Fraction, none) ]
