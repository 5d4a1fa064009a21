-- Multiples are products.
use Rattle.std.proofs.Common.{◌≡◌, ℕ, zero, suc, ◌+◌, ◌*◌, ◌/◌, ◌%◌, ◌<◌, Bool, true, false, cond, eqb, ℤ, pos, negsuc, neg_ℤ, ◌*ℤ◌, refl, sym, ap, ◌∙◌, arith, IsTrue}
use Rattle.std.proofs.Math.Nat.{mul-mod_left}
use Rattle.std.proofs.lemmas.Bool.{eqb-true, eqb-false, eq-eqb}
use Rattle.std.proofs.lemmas.Nat.{div-add-mod'}
use Rattle.std.proofs.lemmas.Int.{unsigned_abs-mul}
use Rattle.std.specs.Prelude.{unsigned_abs, ◌↔◌}
use Rattle.pv_numeric.specs.Multiples.{IsMultiple, is_multiple}

-- of the size of a product
sized : (n m : ℤ) (q : ℕ) → unsigned_abs n ≡ q * unsigned_abs m → IsMultiple n m
sized (pos a) (pos b) q e = (pos q, ap pos e)
sized (pos a) (negsuc b) zero e = let none : 0 * suc b ≡ 0 = omega arith in (pos 0, rw none (ap pos (omega arith)))
sized (pos a) (negsuc b) (suc q) e = (negsuc q, ap pos e)
sized (negsuc a) (pos b) zero e = absurd (let none : 0 * b ≡ 0 = omega arith in omega arith)
sized (negsuc a) (pos b) (suc q) e = (negsuc q, ap (λ k. neg_ℤ (pos k)) e)
sized (negsuc a) (negsuc b) q e = (pos q, ap (λ k. neg_ℤ (pos k)) e)

abbrev test : ℕ → ℕ → Bool
test n m = cond (eqb m 0) (eqb n 0) (eqb (n % m) 0)

test_size : (n m : ℕ) → test n m ≡ true → (q : ℕ) × (n ≡ q * m)
test_size n m = by (eqb m 0) refl
  where
    by : (x : Bool) → eqb m 0 ≡ x → cond x (eqb n 0) (eqb (n % m) 0) ≡ true → (q : ℕ) × (n ≡ q * m)
    by true e h = let none = eqb-true n 0 h in (0, let z : 0 * m ≡ 0 = omega arith in omega arith)
    by false e h = let none = eqb-true (n % m) 0 h in (n / m, omega (arith, div-add-mod' n m))

size_test : (n m q : ℕ) → n ≡ q * m → test n m ≡ true
size_test n m q is = by (eqb m 0) refl
  where
    by : (x : Bool) → eqb m 0 ≡ x → cond x (eqb n 0) (eqb (n % m) 0) ≡ true
    by true e = let none = eqb-true m 0 e in eq-eqb n 0 (is ∙ ap (λ k. q * k) none ∙ omega arith)
    by false e = eq-eqb (n % m) 0 (ap (λ k. k % m) is ∙ mul-mod_left q m)

pub multiple_is_product : (n m : ℤ) → (IsTrue (is_multiple n m) ↔ IsMultiple n m)
unfolding is_multiple
multiple_is_product n m = (
  λ h. let found = test_size (unsigned_abs n) (unsigned_abs m) h in sized n m found.0 found.1,
  λ is. size_test (unsigned_abs n) (unsigned_abs m) (unsigned_abs is.0) (ap unsigned_abs is.1 ∙ unsigned_abs-mul is.0 m),
)
