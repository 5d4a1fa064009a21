-- The laws of the order of numbers, and of their equality.
use Rattle.std.proofs.Common.{◌≡◌, ℕ, suc, ◌+◌, ◌*◌, ◌^◌, ◌<◌, true, ℤ, pos, negsuc, ◌+ℤ◌, ◌-ℤ◌, ◌*ℤ◌, ◌≤ℤ◌, ◌<ℤ◌, refl, sym, ap, ◌∙◌, arith, add-zero}
use Rattle.std.proofs.Math.Nat.{one-le-pow, mul-lt-mul_of_pos_right, mul_assoc}
use Rattle.std.proofs.lemmas.Nat.{pow-add}
use Rattle.std.proofs.lemmas.Int.{ints, clamps}
use Rattle.std.proofs.lemmas.Cmp.{int_cmp_total, int_ranked}
use Rattle.std.specs.Cmp.{IsTotalOrder, int_cmp_is, int_ranks}
use Rattle.std.specs.Prelude.{unsigned_abs, ◌↔◌}
use Rattle.std.specs.Int.{int_min}
use Rattle.std.specs.Ordering.{MatchOrdering, int_cmp, ordering_reverse}
use Rattle.std.specs.declared.cmp.Ordering.{Ordering}
use Rattle.std.specs.declared.cmp.Ordering.TheVariants.{Less, Equal, Greater}
use Rattle.pv_number.specs.ExactNumber.{Number, signed, IsProduct, HasValue}
use Rattle.pv_number.specs.NumberEquality.{least_exponent, scaled, IsSameNumber, number_cmp, int_number}
use Rattle.pv_number.proofs.WholeValue.{signed_times}

-- ---- one scale for all

times_less : (x y : ℤ) (p : ℕ) → 0 < p → x <ℤ y → (x *ℤ pos p) <ℤ (y *ℤ pos p)
times_less (pos a) (pos b) p some l = let h = mul-lt-mul_of_pos_right {m = a} {n = b} {k = p} (omega (arith, ints)) some in omega (arith, ints)
times_less (pos a) (negsuc b) p some l = absurd (omega (arith, ints))
times_less (negsuc a) (pos b) p some l = let h = mul-lt-mul_of_pos_right {m = 0} {n = suc a} {k = p} (omega arith) some in omega (arith, ints)
times_less (negsuc a) (negsuc b) p some l = let h = mul-lt-mul_of_pos_right {m = suc b} {n = suc a} {k = p} (omega (arith, ints)) some in omega (arith, ints)

times_ranks : (r : Ordering) (x y : ℤ) (p : ℕ) → 0 < p → MatchOrdering r (x <ℤ y) (x ≡ y) (y <ℤ x) → MatchOrdering r ((x *ℤ pos p) <ℤ (y *ℤ pos p)) (x *ℤ pos p ≡ y *ℤ pos p) ((y *ℤ pos p) <ℤ (x *ℤ pos p))
times_ranks Less x y p some h = times_less x y p some h
times_ranks Equal x y p some h = ap (λ z. z *ℤ pos p) h
times_ranks Greater x y p some h = times_less y x p some h

cmp_times : (x y : ℤ) (p : ℕ) → 0 < p → int_cmp x y ≡ int_cmp (x *ℤ pos p) (y *ℤ pos p)
cmp_times x y p some = int_cmp_is (x *ℤ pos p) (y *ℤ pos p) (int_cmp x y) (times_ranks (int_cmp x y) x y p some (int_ranks x y))

times_both : (m : ℤ) (p q : ℕ) → m *ℤ pos (p * q) ≡ m *ℤ pos p *ℤ pos q
times_both (pos a) p q = ap pos (sym (mul_assoc a p q))
times_both (negsuc a) p q = signed_times true (suc a) (p * q) ∙ ap (signed true) (sym (mul_assoc (suc a) p q)) ∙ sym (signed_times true (suc a * p) q) ∙ ap (λ z. z *ℤ pos q) (sym (signed_times true (suc a) p))

size_sum : (x y : ℤ) → pos 0 ≤ℤ x → pos 0 ≤ℤ y → unsigned_abs (x +ℤ y) ≡ unsigned_abs x + unsigned_abs y
size_sum (pos a) (pos b) h k = refl
size_sum (pos a) (negsuc b) h k = absurd (omega (arith, ints))
size_sum (negsuc a) y h k = absurd (omega (arith, ints))

-- where the exponent is less by that much
finer : (a : Number) (k l : ℤ) → l ≤ℤ k → k ≤ℤ a.exponent → scaled a l ≡ scaled a k *ℤ pos (10 ^ unsigned_abs (k -ℤ l))
finer a k l low high =
    let e = a.exponent in
    let split : e -ℤ l ≡ (e -ℤ k) +ℤ (k -ℤ l) = omega (arith, ints) in
    let size : unsigned_abs (e -ℤ l) ≡ unsigned_abs (e -ℤ k) + unsigned_abs (k -ℤ l) = ap unsigned_abs split ∙ size_sum (e -ℤ k) (k -ℤ l) (omega (arith, ints)) (omega (arith, ints)) in
    ap (λ i. a.significand *ℤ pos (10 ^ i)) size ∙ ap (λ i. a.significand *ℤ pos i) (pow-add 10 (unsigned_abs (e -ℤ k)) (unsigned_abs (k -ℤ l))) ∙ times_both a.significand (10 ^ unsigned_abs (e -ℤ k)) (10 ^ unsigned_abs (k -ℤ l))

-- the order, at any exponent that is low enough
cmp_at : (a b : Number) (l : ℤ) → l ≤ℤ a.exponent → l ≤ℤ b.exponent → number_cmp a b ≡ int_cmp (scaled a l) (scaled b l)
unfolding number_cmp
cmp_at a b l la lb =
    let k = least_exponent a b in
    let under : l ≤ℤ least_exponent a b = omega (arith, ints, clamps) in
    let ka : least_exponent a b ≤ℤ a.exponent = omega (arith, ints, clamps) in
    let kb : least_exponent a b ≤ℤ b.exponent = omega (arith, ints, clamps) in
    rw (finer a k l under ka, finer b k l under kb) (cmp_times (scaled a k) (scaled b k) (10 ^ unsigned_abs (k -ℤ l)) (one-le-pow (unsigned_abs (k -ℤ l)) 10 (omega arith)))

least_of_three : (x y z : ℤ) → (l : ℤ) × (l ≤ℤ x) × (l ≤ℤ y) × (l ≤ℤ z)
least_of_three x y z = (int_min (int_min x y) z, omega (arith, ints, clamps), omega (arith, ints, clamps), omega (arith, ints, clamps))

pub cmp_total : IsTotalOrder number_cmp
cmp_total = record {
  antisymm = λ a b. let (l, la, lb, lc) = least_of_three a.exponent b.exponent b.exponent in
      cmp_at a b l la lb ∙ int_cmp_total.antisymm (scaled a l) (scaled b l) ∙ ap ordering_reverse (sym (cmp_at b a l lb la));
  trans = λ a b c p q. let (l, la, lb, lc) = least_of_three a.exponent b.exponent c.exponent in
      cmp_at a c l la lc ∙ int_cmp_total.trans (scaled a l) (scaled b l) (scaled c l) (sym (cmp_at a b l la lb) ∙ p) (sym (cmp_at b c l lb lc) ∙ q);
  congr = λ a b c p. let (l, la, lb, lc) = least_of_three a.exponent b.exponent c.exponent in
      cmp_at a c l la lc ∙ int_cmp_total.congr (scaled a l) (scaled b l) (scaled c l) (sym (cmp_at a b l la lb) ∙ p) ∙ sym (cmp_at b c l lb lc);
}

-- ---- equality

pub equal_is_same : (a b : Number) → number_cmp a b ≡ Equal → IsSameNumber a b
unfolding number_cmp
equal_is_same a b e = int_ranked (scaled a (least_exponent a b)) (scaled b (least_exponent a b)) Equal (sym e)

pub same_is_equal : (a b : Number) → IsSameNumber a b → number_cmp a b ≡ Equal
unfolding number_cmp
same_is_equal a b e = sym (int_cmp_is (scaled a (least_exponent a b)) (scaled b (least_exponent a b)) Equal e)

pub equal_tells : (a b : Number) → ((number_cmp a b ≡ Equal) ↔ IsSameNumber a b)
equal_tells a b = (equal_is_same a b, same_is_equal a b)

pub same_itself : (a : Number) → IsSameNumber a a
same_itself a = refl

pub same_back : (a b : Number) → IsSameNumber a b → IsSameNumber b a
same_back a b e = equal_is_same b a (cmp_total.antisymm b a ∙ ap ordering_reverse (same_is_equal a b e))

pub same_on : (a b c : Number) → IsSameNumber a b → IsSameNumber b c → IsSameNumber a c
same_on a b c e f = equal_is_same a c (cmp_total.congr a b c (same_is_equal a b e) ∙ same_is_equal b c f)

-- ---- whole numbers

times_one : (m : ℤ) → m *ℤ pos 1 ≡ m
times_one m = omega (arith, ints)

pub ints_cmp : (m n : ℤ) → number_cmp (int_number m) (int_number n) ≡ int_cmp m n
unfolding number_cmp
ints_cmp m n = rw (times_one m, times_one n) refl

same_at : (a b : Number) (l : ℤ) → l ≤ℤ a.exponent → l ≤ℤ b.exponent → scaled a l ≡ scaled b l → IsSameNumber a b
same_at a b l la lb e = equal_is_same a b (cmp_at a b l la lb ∙ sym (int_cmp_is (scaled a l) (scaled b l) Equal e))

scaled_same : (a b : Number) (l : ℤ) → l ≤ℤ a.exponent → l ≤ℤ b.exponent → IsSameNumber a b → scaled a l ≡ scaled b l
scaled_same a b l la lb e = int_ranked (scaled a l) (scaled b l) Equal (sym (same_is_equal a b e) ∙ cmp_at a b l la lb)

abbrev at : ℤ → ℤ → Number
at m e = record { significand = m; exponent = e }

above_zero : (m : ℤ) (e : ℕ) → scaled (at m (pos e)) (pos 0) ≡ m *ℤ pos (10 ^ e)
above_zero m e = ap (λ i. m *ℤ pos (10 ^ i)) (add-zero e)

int_above : (n : ℤ) → scaled (int_number n) (pos 0) ≡ n
int_above n = times_one n

under_zero : (m : ℤ) (e : ℕ) → scaled (at m (negsuc e)) (negsuc e) ≡ m
under_zero m e = let none : negsuc e -ℤ negsuc e ≡ pos 0 = omega (arith, ints) in ap (λ i. m *ℤ pos (10 ^ unsigned_abs i)) none ∙ times_one m

int_under : (n : ℤ) (e : ℕ) → scaled (int_number n) (negsuc e) ≡ n *ℤ pos (10 ^ (e + 1))
int_under n e = let up : pos 0 -ℤ negsuc e ≡ pos (e + 1) = omega (arith, ints) in ap (λ i. n *ℤ pos (10 ^ unsigned_abs i)) up

pub value_tells : (a : Number) (n : ℤ) → (HasValue a n ↔ IsSameNumber a (int_number n))
value_tells a n = (to a.significand a.exponent, from a.significand a.exponent)
  where
    to : (m e : ℤ) → IsProduct m e n → IsSameNumber (at m e) (int_number n)
    to m (pos e) is = same_at (at m (pos e)) (int_number n) (pos 0) (omega (arith, ints)) (omega (arith, ints)) (above_zero m e ∙ sym is ∙ sym (int_above n))
    to m (negsuc e) is = same_at (at m (negsuc e)) (int_number n) (negsuc e) (omega (arith, ints)) (omega (arith, ints)) (under_zero m e ∙ is ∙ sym (int_under n e))

    from : (m e : ℤ) → IsSameNumber (at m e) (int_number n) → IsProduct m e n
    from m (pos e) is = sym (int_above n) ∙ sym (scaled_same (at m (pos e)) (int_number n) (pos 0) (omega (arith, ints)) (omega (arith, ints)) is) ∙ above_zero m e
    from m (negsuc e) is = sym (under_zero m e) ∙ scaled_same (at m (negsuc e)) (int_number n) (negsuc e) (omega (arith, ints)) (omega (arith, ints)) is ∙ int_under n e

pub same_answer : (r : Ordering) (a b : Number) → r ≡ number_cmp a b → ((r ≡ Equal) ↔ IsSameNumber a b)
same_answer r a b e = (λ f. equal_is_same a b (sym e ∙ f), λ f. e ∙ same_is_equal a b f)
