-- Integers of few digits.
use Rattle.std.proofs.Common.{◌≡◌, ℕ, zero, suc, ◌+◌, ◌*◌, ◌^◌, ◌<◌, ◌≤◌, Bool, true, false, List, [], ◌∷◌, drop, ℤ, pos, refl, sym, ap, ◌∙◌, subst, append-nil, arith, add-one, Some}
use Rattle.std.specs.Prelude.{not, ◌||◌, ◌==◌, if◌then◌else◌, neg_ℤ}
use Rattle.std.specs.List.{list_all}
use Rattle.std.proofs.Math.Nat.{pow-suc, pow-le-pow_right}
use Rattle.std.proofs.lemmas.Bool.{and_parts, lt-ltb, eqb-true}
use Rattle.std.proofs.lemmas.Bool.Decides.{eqb_tells}
use Rattle.pv_number.specs.ExactNumber.{number, natural, is_integer, is_point, is_letter, without_sign, signed}
use Rattle.pv_number.specs.Scanning.{is_digit, begins}
use Rattle.pv_number.specs.WrittenIntegers.{integer, is_i128}
use Rattle.pv_number.proofs.WrittenIntegers.{all_before, none_after, each}

pub next_below : (value d i : ℕ) → value < 10 ^ i → d ≤ 9 → value * 10 + d < 10 ^ (i + 1)
next_below value d i l m = rw (add-one i, pow-suc 10 i) (omega (arith, l, m))

-- a number of so few digits
pub few_fit : (value i : ℕ) → value < 10 ^ i → i ≤ 18 → value < 10 ^ 18
few_fit value i l k =
    let more : 10 ^ i ≤ 10 ^ 18 = pow-le-pow_right {n = 10} (omega arith) k in
    omega (arith, more, l)

-- one digit more
pub next_fits : (value d i n : ℕ) → value < 10 ^ i → d ≤ 9 → i < n → n ≤ 18 → value * 10 + d < 10 ^ 18
next_fits value d i n l m k h = few_fit (value * 10 + d) (i + 1) (next_below value d i l m) (omega (arith, k, h))

-- a digit is no point, no letter and no sign
digit_free : (b : ℕ) → is_digit b ≡ true → (not (is_point b || is_letter b) ≡ true) × (b == 45 ≡ false) × (b == 43 ≡ false)
digit_free b d = (grind (arith, eqb_tells), grind (arith, eqb_tells), grind (arith, eqb_tells))

digits_free : (bs : List ℕ) → list_all is_digit bs ≡ true → is_integer bs ≡ true
digits_free [] all = refl
digits_free (b ∷ bs) all =
    let parts = and_parts (is_digit b) (list_all is_digit bs) all in
    rw ((digit_free b parts.0).0, digits_free bs parts.1) refl

no_minus : (bs : List ℕ) → list_all is_digit bs ≡ true → begins 45 bs ≡ false
no_minus [] all = refl
no_minus (b ∷ bs) all = (digit_free b (and_parts (is_digit b) (list_all is_digit bs) all).0).1

no_plus : (bs : List ℕ) → list_all is_digit bs ≡ true → begins 43 bs ≡ false
no_plus [] all = refl
no_plus (b ∷ bs) all = (digit_free b (and_parts (is_digit b) (list_all is_digit bs) all).0).2

unsigned : (bs : List ℕ) → list_all is_digit bs ≡ true → without_sign bs ≡ bs
unsigned bs all = rw (no_minus bs all, no_plus bs all) refl

-- what the bytes form, once no letter and no point is in them
significand_of : (bs ds : List ℕ) → is_integer bs ≡ true → without_sign bs ≡ ds → list_all is_digit ds ≡ true
    → (number bs).significand ≡ signed (begins 45 bs) (natural ds)
unfolding number
significand_of bs ds free e all =
    let here = each bs free in
    let inside = each ds (digits_free ds all) in
    rw (all_before is_letter bs here.1, e, all_before is_point ds inside.0, none_after is_point ds inside.0, append-nil ds) refl

small_pos : (n : ℕ) → n < 10 ^ 18 → is_i128 (pos n) ≡ true
small_pos n l = lt-ltb n (2 ^ 127) (omega (arith, l))

small_neg : (n : ℕ) → n < 10 ^ 18 → is_i128 (neg_ℤ (pos n)) ≡ true
small_neg zero l = refl
small_neg (suc n) l = lt-ltb n (2 ^ 127) (omega (arith, l))

integer_of : (bs : List ℕ) (z : ℤ) → is_integer bs ≡ true → (number bs).significand ≡ z → is_i128 z ≡ true → integer bs ≡ Some z
unfolding integer
integer_of bs z free e small = rw (free, e, small) refl

plain_integer : (bs : List ℕ) (n : ℕ) → list_all is_digit bs ≡ true → n ≡ natural bs → n < 10 ^ 18 → integer bs ≡ Some (signed (begins 45 bs) n)
plain_integer bs n all e l =
    let free = digits_free bs all in
    rw (no_minus bs all) (integer_of bs (pos n) free (significand_of bs bs free (unsigned bs all) all ∙ rw (no_minus bs all, sym e) refl) (small_pos n l))

minus_integer : (ds : List ℕ) (n : ℕ) → list_all is_digit ds ≡ true → n ≡ natural ds → n < 10 ^ 18 → integer (45 ∷ ds) ≡ Some (signed true n)
minus_integer ds n all e l =
    integer_of (45 ∷ ds) (signed true n) (digits_free ds all) (significand_of (45 ∷ ds) ds (digits_free ds all) refl all ∙ rw (sym e) refl) (small_neg n l)

pub few_digits : (bs ds : List ℕ) (n : ℕ) → ds ≡ (if begins 45 bs then drop 1 bs else bs) → list_all is_digit ds ≡ true → n ≡ natural ds → n < 10 ^ 18
    → integer bs ≡ Some (signed (begins 45 bs) n)
few_digits [] ds n f all e l = plain_integer [] n refl (e ∙ ap natural f) l
few_digits (b ∷ bs) ds n f all e l =
    by (b == 45) refl
  where
    by : (t : Bool) → b == 45 ≡ t → integer (b ∷ bs) ≡ Some (signed (b == 45) n)
    by true t =
        let minus : b ≡ 45 = eqb-true b 45 t in
        let whole : ds ≡ bs = f ∙ rw t refl in
        rw minus (minus_integer bs n (subst (λ xs. list_all is_digit xs ≡ true) whole all) (e ∙ ap natural whole) l)
    by false t =
        let whole : ds ≡ b ∷ bs = f ∙ rw t refl in
        plain_integer (b ∷ bs) n (subst (λ xs. list_all is_digit xs ≡ true) whole all) (e ∙ ap natural whole) l
