-- The whole number that significant digits and an exponent give.
use Rattle.std.proofs.Common.{◌≡◌, ℕ, zero, suc, ◌+◌, ◌-◌, ◌*◌, ◌%◌, ◌^◌, ◌<◌, ◌≤◌, Bool, true, false, List, length, get_or, ℤ, pos, negsuc, ◌+ℤ◌, ◌-ℤ◌, ◌*ℤ◌, ◌<ℤ◌, refl, sym, ap, ◌∙◌, subst, arith, add-one}
use Rattle.std.proofs.Math.Nat.{pow-suc, one-le-pow, mul-le-mul_left, mul-le-mul_right, mul_assoc, pow-le-pow_right, eq_of_mul-eq-mul_right}
use Rattle.std.proofs.lemmas.Nat.{pow-add}
use Rattle.std.proofs.lemmas.Int.{ints, clamps, unsigned_abs-mul}
use Rattle.std.specs.Prelude.{FitsSigned, unsigned_abs}
use Rattle.std.specs.Int.{w128}
use Rattle.pv_number.specs.ExactNumber.{Number, signed, natural, digit, IsProduct, HasValue, IsWhole}
use Rattle.pv_number.specs.declared.exact.Whole.TheVariants.{Fits, TooBig, Fraction}
use Rattle.pv_number.specs.declared.decimal.Decimal.{Decimal}
use Rattle.pv_number.specs.Decimals.{capped, run, digits, exponent_of, number_of}
use Rattle.pv_number.proofs.Runs.{run_next, run_none, digit_below}

pub power_more : (value n : ℕ) → value * 10 ^ n * 10 ≡ value * 10 ^ (n + 1)
power_more value n = rw (add-one n, pow-suc 10 n, mul_assoc) refl

pub power_large : (value n power b : ℕ) → n < power → b ≤ value * 10 ^ n * 10 → value * 10 ^ power < b → ⊥
power_large value n power b l h below =
    let up : 10 ^ suc n ≤ 10 ^ power = pow-le-pow_right {n = 10} (omega arith) {i = suc n} {j = power} (omega arith) in
    let more : value * 10 ^ suc n ≤ value * 10 ^ power = mul-le-mul_left value up in
    let same : value * 10 ^ suc n ≡ value * 10 ^ n * 10 = rw (pow-suc 10 n, mul_assoc) refl in
    absurd (omega arith)

signed_size : (minus : Bool) (n : ℕ) → unsigned_abs (signed minus n) ≡ n
signed_size true zero = refl
signed_size true (suc n) = refl
signed_size false n = refl

pub signed_times : (minus : Bool) (n p : ℕ) → signed minus n *ℤ pos p ≡ signed minus (n * p)
signed_times true zero p = let none : 0 * p ≡ 0 = omega arith in rw none refl
signed_times true (suc n) p = refl
signed_times false n p = refl

-- a sum of exponents
powers : (d i j : ℕ) → d * 10 ^ (i + j) ≡ d * 10 ^ i * 10 ^ j
powers d i j = rw (pow-add 10 i j, mul_assoc) refl

product_at : (minus : Bool) (d z k : ℕ) (e : ℤ) → e +ℤ pos z ≡ pos k → IsProduct (signed minus (d * 10 ^ z)) e (signed minus (d * 10 ^ k))
product_at minus d z k (pos p) is =
    let at : k ≡ z + p = omega (arith, ints) in
    ap (λ i. signed minus (d * 10 ^ i)) at ∙ ap (signed minus) (powers d z p) ∙ sym (signed_times minus (d * 10 ^ z) (10 ^ p))
product_at minus d z k (negsuc q) is =
    let at : z ≡ k + (q + 1) = omega (arith, ints) in
    ap (λ i. signed minus (d * 10 ^ i)) at ∙ ap (signed minus) (powers d k (q + 1)) ∙ sym (signed_times minus (d * 10 ^ k) (10 ^ (q + 1)))

no_product : (minus : Bool) (d z : ℕ) (e n : ℤ) → 0 < d % 10 → (e +ℤ pos z) <ℤ pos 0 → IsProduct (signed minus (d * 10 ^ z)) e n → ⊥
no_product minus d z (pos p) n last below is = absurd (omega (arith, ints))
no_product minus d z (negsuc q) n last below is =
    let j = q - z in
    let at : q + 1 ≡ (j + 1) + z = omega (arith, ints) in
    let sizes : d * 10 ^ z ≡ unsigned_abs n * 10 ^ (q + 1) = sym (signed_size minus (d * 10 ^ z)) ∙ ap unsigned_abs is ∙ unsigned_abs-mul n (pos (10 ^ (q + 1))) in
    let cut : d * 10 ^ z ≡ unsigned_abs n * 10 ^ (j + 1) * 10 ^ z = sizes ∙ ap (λ i. unsigned_abs n * 10 ^ i) at ∙ powers (unsigned_abs n) (j + 1) z in
    let whole : d ≡ unsigned_abs n * 10 ^ (j + 1) = eq_of_mul-eq-mul_right (10 ^ z) (one-le-pow z 10 (omega arith)) d (unsigned_abs n * 10 ^ (j + 1)) cut in
    let tens : d ≡ unsigned_abs n * 10 ^ j * 10 = whole ∙ sym (power_more (unsigned_abs n) j) in
    absurd (omega arith)

-- ---- one value

same_product : (p : ℕ) (m n : ℤ) → 0 < p → m *ℤ pos p ≡ n *ℤ pos p → m ≡ n
same_product p (pos a) (pos b) some e = ap pos (eq_of_mul-eq-mul_right p some a b (ap unsigned_abs e))
same_product p (negsuc a) (negsuc b) some e =
    let sizes : suc a * p ≡ suc b * p = sym (unsigned_abs-mul (negsuc a) (pos p)) ∙ ap unsigned_abs e ∙ unsigned_abs-mul (negsuc b) (pos p) in
    let same : suc a ≡ suc b = eq_of_mul-eq-mul_right p some (suc a) (suc b) sizes in
    ap negsuc (omega arith)
same_product p (pos a) (negsuc b) some e = absurd (apart a b p some e)
  where
    apart : (a b p : ℕ) → 0 < p → pos a *ℤ pos p ≡ negsuc b *ℤ pos p → ⊥
    apart a b p some e = let big : 1 * p ≤ suc b * p = mul-le-mul_right p (omega arith) in omega (arith, ints)
same_product p (negsuc a) (pos b) some e = absurd (apart a b p some e)
  where
    apart : (a b p : ℕ) → 0 < p → negsuc a *ℤ pos p ≡ pos b *ℤ pos p → ⊥
    apart a b p some e = let big : 1 * p ≤ suc a * p = mul-le-mul_right p (omega arith) in omega (arith, ints)

one_product : (m e n k : ℤ) → IsProduct m e n → IsProduct m e k → n ≡ k
one_product m (pos e) n k p q = p ∙ sym q
one_product m (negsuc e) n k p q = same_product (10 ^ (e + 1)) n k (one-le-pow (e + 1) 10 (omega arith)) (sym p ∙ q)

pub one_value : (a : Number) (n k : ℤ) → HasValue a n → HasValue a k → n ≡ k
one_value a n k p q = one_product a.significand a.exponent n k p q

-- ---- the answers

abbrev of_digits : Bool → List ℕ → ℕ → ℤ → Number
of_digits minus ds places x = record { significand = signed minus (natural ds); exponent = x -ℤ pos places }

-- the first digits, of which the last is not zero, with zeros behind them
abbrev IsFront : List ℕ → ℕ → Type 0
IsFront ds kept = natural ds ≡ run ds 0 kept * 10 ^ (length ds - kept)

abbrev HasLast : List ℕ → ℕ → Type 0
HasLast ds kept = 0 < kept → 0 < digit (get_or ds (kept - 1) 0)

last_counts : (ds : List ℕ) (kept : ℕ) → HasLast ds kept → 0 < kept → 0 < run ds 0 kept % 10
last_counts ds kept last some =
    let at : kept ≡ (kept - 1) + 1 = omega arith in
    let d = digit (get_or ds (kept - 1) 0) in
    let has : 0 < digit (get_or ds (kept - 1) 0) = last some in
    let is : run ds 0 kept ≡ run ds 0 (kept - 1) * 10 + digit (get_or ds (kept - 1) 0) = ap (run ds 0) at ∙ run_next ds (kept - 1) in
    omega (arith, digit_below (get_or ds (kept - 1) 0))

-- the exponent as it is computed, from the one as it is written
abbrev IsExponentAt : ℤ → ℕ → ℕ → ℤ → Type 0
IsExponentAt x z places k = k ≡ capped x +ℤ pos z -ℤ pos places

true_exponent : (x : ℤ) (z places k : ℕ) → z < 2 ^ 64 → places < 2 ^ 64 → IsExponentAt x z places (pos k) → k ≤ 38 → x -ℤ pos places +ℤ pos z ≡ pos k
unfolding capped
true_exponent x z places k a b is small = omega (arith, ints, clamps)

below_exponent : (x k : ℤ) (z places : ℕ) → z < 2 ^ 64 → places < 2 ^ 64 → IsExponentAt x z places k → k <ℤ pos 0 → (x -ℤ pos places +ℤ pos z) <ℤ pos 0
unfolding capped
below_exponent x k z places a b is below = omega (arith, ints, clamps)

past_exponent : (x k : ℤ) (z places : ℕ) → z < 2 ^ 64 → places < 2 ^ 64 → IsExponentAt x z places k → pos 38 <ℤ k → (j : ℕ) × (38 < j) × (x -ℤ pos places +ℤ pos z ≡ pos j)
unfolding capped
past_exponent x k z places a b is past =
    let high : pos 38 <ℤ (x -ℤ pos places +ℤ pos z) = omega (arith, ints, clamps) in by (x -ℤ pos places +ℤ pos z) high
  where
    by : (y : ℤ) → pos 38 <ℤ y → (j : ℕ) × (38 < j) × (y ≡ pos j)
    by (pos j) h = (j, omega (arith, ints), refl)
    by (negsuc j) h = absurd (omega (arith, ints))

mag_signed : (minus : Bool) (n : ℕ) → 2 ^ 127 < n → FitsSigned w128 (signed minus n) → ⊥
mag_signed true zero h fits = absurd (omega arith)
mag_signed true (suc n) h fits = let f = fits.sfits in absurd (omega arith)
mag_signed false n h fits = let f = fits.sfits in absurd (omega arith)

pub large_front : (minus : Bool) (d p : ℕ) → (d < 2 ^ 128 → ⊥) → FitsSigned w128 (signed minus (d * 10 ^ p)) → ⊥
large_front minus d p large fits =
    let more : d * 1 ≤ d * 10 ^ p = mul-le-mul_left d (one-le-pow p 10 (omega arith)) in
    mag_signed minus (d * 10 ^ p) (omega arith) fits

zero_whole : (minus : Bool) (ds : List ℕ) (kept places : ℕ) (x : ℤ) → IsFront ds kept → kept ≡ 0 → IsWhole (of_digits minus ds places x) (Fits (pos 0))
zero_whole minus ds kept places x front none =
    let zero : natural ds ≡ 0 = front ∙ ap (λ k. run ds 0 k * 10 ^ (length ds - k)) none ∙ ap (λ d. d * 10 ^ (length ds - 0)) (run_none ds 0) ∙ omega arith in
    (rw zero (by minus (x -ℤ pos places)), record { sfits = omega arith })
  where
    by : (minus : Bool) (e : ℤ) → IsProduct (signed minus 0) e (pos 0)
    by true (pos p) = ap pos (omega arith)
    by true (negsuc p) = ap pos (omega arith)
    by false (pos p) = ap pos (omega arith)
    by false (negsuc p) = ap pos (omega arith)

fraction_whole : (minus : Bool) (ds : List ℕ) (kept places : ℕ) (x k : ℤ) → IsFront ds kept → HasLast ds kept → 0 < kept → length ds < 2 ^ 64 → places < 2 ^ 64 → IsExponentAt x (length ds - kept) places k → k <ℤ pos 0 → IsWhole (of_digits minus ds places x) Fraction
fraction_whole minus ds kept places x k front last some a b is below n has =
    no_product minus (run ds 0 kept) (length ds - kept) (x -ℤ pos places) n (last_counts ds kept last some) (below_exponent x k (length ds - kept) places (omega arith) b is below)
    (subst (λ m. IsProduct (signed minus m) (x -ℤ pos places) n) front has)

value_at : (minus : Bool) (ds : List ℕ) (kept places : ℕ) (x : ℤ) (k : ℕ) → IsFront ds kept → x -ℤ pos places +ℤ pos (length ds - kept) ≡ pos k → HasValue (of_digits minus ds places x) (signed minus (run ds 0 kept * 10 ^ k))
value_at minus ds kept places x k front is =
    subst (λ m. IsProduct (signed minus m) (x -ℤ pos places) (signed minus (run ds 0 kept * 10 ^ k))) (sym front) (product_at minus (run ds 0 kept) (length ds - kept) k (x -ℤ pos places) is)

past_whole : (minus : Bool) (ds : List ℕ) (kept places : ℕ) (x k : ℤ) → IsFront ds kept → HasLast ds kept → 0 < kept → length ds < 2 ^ 64 → places < 2 ^ 64 → IsExponentAt x (length ds - kept) places k → pos 38 <ℤ k → IsWhole (of_digits minus ds places x) TooBig
past_whole minus ds kept places x k front last some a b is past =
    let (j, far_up, at) = past_exponent x k (length ds - kept) places (omega arith) b is past in
    let d = run ds 0 kept in
    let counts = last_counts ds kept last some in
    let first : 1 ≤ run ds 0 kept = omega arith in
    let up : 10 ^ 39 ≤ 10 ^ j = pow-le-pow_right {n = 10} (omega arith) {i = 39} {j = j} (omega arith) in
    let more : 1 * 10 ^ j ≤ run ds 0 kept * 10 ^ j = mul-le-mul_right (10 ^ j) first in
    (signed minus (run ds 0 kept * 10 ^ j), value_at minus ds kept places x j front at, mag_signed minus (run ds 0 kept * 10 ^ j) (omega arith))

scaled_value : (minus : Bool) (ds : List ℕ) (kept places : ℕ) (x : ℤ) (k : ℕ) → IsFront ds kept → length ds < 2 ^ 64 → places < 2 ^ 64 → IsExponentAt x (length ds - kept) places (pos k) → k ≤ 38 → HasValue (of_digits minus ds places x) (signed minus (run ds 0 kept * 10 ^ k))
scaled_value minus ds kept places x k front a b is small =
    value_at minus ds kept places x k front (true_exponent x (length ds - kept) places k (omega arith) b is small)

-- ---- of a number taken apart

abbrev IsShort : Decimal → Type 0
IsShort d = (length (digits d) < 2 ^ 64) × (length d.fraction.now < 2 ^ 64)

abbrev IsExponentOf : Decimal → ℕ → ℤ → Type 0
IsExponentOf d kept e = e ≡ capped (exponent_of d.exponent) +ℤ pos (length (digits d) - kept) -ℤ pos (length d.fraction.now)

pub zero_of : (d : Decimal) (kept : ℕ) → IsFront (digits d) kept → kept ≡ 0 → IsWhole (number_of d) (Fits (pos 0))
zero_of d kept front none = zero_whole d.negative (digits d) kept (length d.fraction.now) (exponent_of d.exponent) front none

pub fraction_of : (d : Decimal) (kept : ℕ) (e : ℤ) → IsFront (digits d) kept → HasLast (digits d) kept → 0 < kept → IsShort d → IsExponentOf d kept e → e <ℤ pos 0 → IsWhole (number_of d) Fraction
fraction_of d kept e front last some short is below =
    fraction_whole d.negative (digits d) kept (length d.fraction.now) (exponent_of d.exponent) e front last some short.0 short.1 is below

pub past_of : (d : Decimal) (kept : ℕ) (e : ℤ) → IsFront (digits d) kept → HasLast (digits d) kept → 0 < kept → IsShort d → IsExponentOf d kept e → pos 38 <ℤ e → IsWhole (number_of d) TooBig
past_of d kept e front last some short is past =
    past_whole d.negative (digits d) kept (length d.fraction.now) (exponent_of d.exponent) e front last some short.0 short.1 is past

abbrev value_of : Decimal → ℕ → ℕ → ℤ
value_of d kept p = signed d.negative (run (digits d) 0 kept * 10 ^ p)

has_value : (d : Decimal) (kept p : ℕ) (e : ℤ) → IsFront (digits d) kept → IsShort d → IsExponentOf d kept e → e ≡ pos p → p ≤ 38 → HasValue (number_of d) (value_of d kept p)
has_value d kept p e front short is at small = scaled_value d.negative (digits d) kept (length d.fraction.now) (exponent_of d.exponent) p front short.0 short.1 (sym at ∙ is) small

pub some_of : (d : Decimal) (kept p : ℕ) (e n : ℤ) → IsFront (digits d) kept → IsShort d → IsExponentOf d kept e → e ≡ pos p → p ≤ 38 → FitsSigned w128 (value_of d kept p) × (n ≡ value_of d kept p) → IsWhole (number_of d) (Fits n)
some_of d kept p e n front short is at small fits = rw fits.1 (has_value d kept p e front short is at small, fits.0)

pub none_of : (d : Decimal) (kept p : ℕ) (e : ℤ) → IsFront (digits d) kept → IsShort d → IsExponentOf d kept e → e ≡ pos p → p ≤ 38 → (FitsSigned w128 (value_of d kept p) → ⊥) → IsWhole (number_of d) TooBig
none_of d kept p e front short is at small past = (value_of d kept p, has_value d kept p e front short is at small, past)
