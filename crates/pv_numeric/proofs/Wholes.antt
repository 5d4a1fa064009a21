-- The function gives the one answer that a number has.
use Rattle.std.proofs.Common.{◌≡◌, ℕ, zero, suc, ◌+◌, ◌*◌, ◌/◌, ◌%◌, ◌^◌, ◌<◌, ◌==◌, Bool, true, false, cond, eqb, ltb, List, Option, Some, None, ℤ, pos, negsuc, neg_ℤ, ◌*ℤ◌, refl, sym, ap, ◌∙◌, subst, arith}
use Rattle.std.proofs.Math.Nat.{mul-mod_left}
use Rattle.std.proofs.lemmas.Bool.{ltb-true, ltb-false, eqb-true, eqb-false}
use Rattle.std.proofs.lemmas.Nat.{div-add-mod'}
use Rattle.std.proofs.lemmas.Int.{unsigned_abs-mul}
use Rattle.std.specs.Prelude.{FitsSigned, unsigned_abs}
use Rattle.std.specs.Int.{w128}
use Rattle.pv_number.specs.ExactNumber.{Number, IsProduct, HasValue, IsWhole, number}
use Rattle.pv_number.specs.WrittenIntegers.{is_i128}
use Rattle.pv_number.specs.declared.Whole.{Whole}
use Rattle.pv_number.specs.declared.Whole.TheVariants.{Fits, TooBig, Fraction}
use Rattle.pv_number.proofs.WholeLaws.{one_answer}
use Rattle.pv_numeric.specs.WholeNumbers.{quotient, times_ten_to, whole_by, whole_or_fraction, whole_of}

-- what a quotient is, where there is one and where there is none
abbrev IsQuotient : ℤ → ℕ → Option ℤ → Type 0
IsQuotient m p (Some n) = m ≡ n *ℤ pos p
IsQuotient m p None = (n : ℤ) → m ≡ n *ℤ pos p → ⊥

no_factor : (m n : ℤ) (p : ℕ) → 0 < unsigned_abs m % p → m ≡ n *ℤ pos p → ⊥
no_factor m n p some is =
    let size : unsigned_abs m ≡ unsigned_abs n * p = ap unsigned_abs is ∙ unsigned_abs-mul n (pos p) in
    let none : unsigned_abs m % p ≡ 0 = ap (λ k. k % p) size ∙ mul-mod_left (unsigned_abs n) p in
    absurd (omega arith)

negative_quotient : (n p q : ℕ) → q * p ≡ suc n → negsuc n ≡ neg_ℤ (pos q) *ℤ pos p
negative_quotient n p zero e = absurd (let none : 0 * p ≡ 0 = omega arith in omega arith)
negative_quotient n p (suc q) e = sym (ap (λ k. neg_ℤ (pos k)) e)

quotient_is : (m : ℤ) (p : ℕ) → IsQuotient m p (quotient m p)
quotient_is (pos n) p = by (eqb (n % p) 0) refl
  where
    by : (x : Bool) → eqb (n % p) 0 ≡ x → IsQuotient (pos n) p (cond x (Some (pos (n / p))) None)
    by true e = let h = eqb-true (n % p) 0 e in ap pos (omega (arith, div-add-mod' n p))
    by false e = let h = eqb-false (n % p) 0 e in λ k is. no_factor (pos n) k p (omega arith) is
quotient_is (negsuc n) p = by (eqb (suc n % p) 0) refl
  where
    by : (x : Bool) → eqb (suc n % p) 0 ≡ x → IsQuotient (negsuc n) p (cond x (Some (neg_ℤ (pos (suc n / p)))) None)
    by true e = let h = eqb-true (suc n % p) 0 e in negative_quotient n p (suc n / p) (omega (arith, div-add-mod' (suc n) p))
    by false e = let h = eqb-false (suc n % p) 0 e in λ k is. no_factor (negsuc n) k p (omega arith) is

pub fits_by : (n : ℤ) → is_i128 n ≡ true → FitsSigned w128 n
fits_by (pos n) e = record { sfits = ltb-true n (2 ^ 127) e }
fits_by (negsuc n) e = record { sfits = ltb-true n (2 ^ 127) e }

pub too_big_by : (n : ℤ) → is_i128 n ≡ false → FitsSigned w128 n → ⊥
too_big_by (pos n) e f = let h = f.sfits in let g = ltb-false n (2 ^ 127) e in absurd (omega arith)
too_big_by (negsuc n) e f = let h = f.sfits in let g = ltb-false n (2 ^ 127) e in absurd (omega arith)

whole_valued : (a : Number) (n : ℤ) → HasValue a n → IsWhole a (whole_by n)
whole_valued a n has = by (is_i128 n) refl
  where
    by : (b : Bool) → is_i128 n ≡ b → IsWhole a (cond b (Fits n) TooBig)
    by true e = (has, fits_by n e)
    by false e = (n, has, too_big_by n e)

answered : (a : Number) (o : Option ℤ) → ((n : ℤ) → o ≡ Some n → HasValue a n) → (o ≡ None → (n : ℤ) → HasValue a n → ⊥) → IsWhole a (whole_or_fraction o)
answered a (Some n) some none = whole_valued a n (some n refl)
answered a None some none = none refl

of_quotient : (m : ℤ) (p : ℕ) (o : Option ℤ) (n : ℤ) → IsQuotient m p o → o ≡ Some n → m ≡ n *ℤ pos p
of_quotient m p o n is e = subst (IsQuotient m p) e is

of_none : (m : ℤ) (p : ℕ) (o : Option ℤ) → IsQuotient m p o → o ≡ None → (n : ℤ) → m ≡ n *ℤ pos p → ⊥
of_none m p o is e = subst (IsQuotient m p) e is

some_product : (m e n : ℤ) → times_ten_to m e ≡ Some n → IsProduct m e n
some_product m (pos e) n is = cc
some_product m (negsuc e) n is = of_quotient m (10 ^ (e + 1)) (quotient m (10 ^ (e + 1))) n (quotient_is m (10 ^ (e + 1))) is

no_product : (m e : ℤ) → times_ten_to m e ≡ None → (n : ℤ) → IsProduct m e n → ⊥
no_product m (pos e) is n has = absurd cc
no_product m (negsuc e) is n has = of_none m (10 ^ (e + 1)) (quotient m (10 ^ (e + 1))) (quotient_is m (10 ^ (e + 1))) is n has

pub whole_of_is_whole : (lexeme : List ℕ) (w : Whole) → IsWhole (number lexeme) w → w ≡ whole_of lexeme
unfolding whole_of
whole_of_is_whole lexeme w is =
    let a = number lexeme in
    one_answer a w _ is (answered a (times_ten_to a.significand a.exponent) (λ n e. some_product a.significand a.exponent n e) (λ e n has. no_product a.significand a.exponent e n has))

pub whole_of_answers : (lexeme : List ℕ) → IsWhole (number lexeme) (whole_of lexeme)
unfolding whole_of
whole_of_answers lexeme =
    let a = number lexeme in
    answered a (times_ten_to a.significand a.exponent) (λ n e. some_product a.significand a.exponent n e) (λ e n has. no_product a.significand a.exponent e n has)
