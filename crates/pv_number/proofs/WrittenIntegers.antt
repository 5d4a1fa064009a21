-- An integer that is written without a point and an exponent is its significand.
use Rattle.std.proofs.Common.{◌≡◌, ℕ, ◌+◌, ◌^◌, ◌<◌, Bool, true, false, cond, List, [], ◌∷◌, length, drop, ℤ, pos, negsuc, ◌*ℤ◌, refl, sym, ap, ◌∙◌, subst, arith, Some, None}
use Rattle.std.specs.Prelude.{FitsSigned, not, ◌||◌, if◌then◌else◌}
use Rattle.std.specs.Int.{w128}
use Rattle.std.specs.List.{before_first, after_first, list_all, position_or_len}
use Rattle.std.proofs.lemmas.List.{drop_all, take_all}
use Rattle.std.proofs.lemmas.Bool.{and_parts, lt-ltb, ltb-true, false≢true}
use Rattle.std.proofs.lemmas.Int.{ints}
use Rattle.std.proofs.lemmas.Option.{none-some, same_Some}
use Rattle.pv_number.specs.ExactNumber.{number, is_integer, is_point, is_letter, HasValue, IsWhole, IsProduct, without_sign}
use Rattle.pv_number.specs.Scanning.{begins}
use Rattle.pv_number.specs.declared.exact.Whole.TheVariants.{Fits, TooBig, Fraction}
use Rattle.pv_number.specs.WrittenIntegers.{is_i128, integer}

-- no element passes
none_at : (p : ℕ → Bool) (bs : List ℕ) → list_all (λ b. not (p b)) bs ≡ true → position_or_len p bs ≡ length bs
none_at p [] all = refl
none_at p (b ∷ bs) all =
    let parts = and_parts (not (p b)) (list_all (λ x. not (p x)) bs) all in
    ap (λ t. cond t (1 + position_or_len p bs) 0) parts.0 ∙ ap (λ n. 1 + n) (none_at p bs parts.1) ∙ omega arith

pub none_after : (p : ℕ → Bool) (bs : List ℕ) → list_all (λ b. not (p b)) bs ≡ true → after_first p bs ≡ []
none_after p bs all = drop_all (position_or_len p bs + 1) bs (omega (arith, none_at p bs all))

pub all_before : (p : ℕ → Bool) (bs : List ℕ) → list_all (λ b. not (p b)) bs ≡ true → before_first p bs ≡ bs
all_before p bs all = take_all (position_or_len p bs) bs (omega (arith, none_at p bs all))

not_either : (a b : Bool) → not (a || b) ≡ true → (not a ≡ true) × (not b ≡ true)
not_either true b e = absurd (false≢true e)
not_either false true e = absurd (false≢true e)
not_either false false e = (refl, refl)

pub each : (bs : List ℕ) → is_integer bs ≡ true → (list_all (λ b. not (is_point b)) bs ≡ true) × (list_all (λ b. not (is_letter b)) bs ≡ true)
each [] all = (refl, refl)
each (b ∷ bs) all =
    let parts = and_parts (not (is_point b || is_letter b)) (is_integer bs) all in
    let here = not_either (is_point b) (is_letter b) parts.0 in
    let more = each bs parts.1 in
    (rw (here.0, more.0) refl, rw (here.1, more.1) refl)

fits_small : (z : ℤ) → FitsSigned w128 z → is_i128 z ≡ true
fits_small (pos n) f = lt-ltb n (2 ^ 127) (omega (arith, ints))
fits_small (negsuc n) f = lt-ltb n (2 ^ 127) (omega (arith, ints))

small_fits : (z : ℤ) → is_i128 z ≡ true → FitsSigned w128 z
small_fits (pos n) e = let l : n < 2 ^ 127 = ltb-true n (2 ^ 127) e in omega (arith, ints)
small_fits (negsuc n) e = let l : n < 2 ^ 127 = ltb-true n (2 ^ 127) e in omega (arith, ints)

behind_first : (q : ℕ → Bool) (bs : List ℕ) → list_all q bs ≡ true → list_all q (drop 1 bs) ≡ true
behind_first q [] all = refl
behind_first q (b ∷ bs) all = (and_parts (q b) (list_all q bs) all).1

either : (q : ℕ → Bool) (t : Bool) (bs : List ℕ) → list_all q bs ≡ true → list_all q (if t then drop 1 bs else bs) ≡ true
either q true bs all = behind_first q bs all
either q false bs all = all

pub exponent_none : (bs : List ℕ) → is_integer bs ≡ true → (number bs).exponent ≡ pos 0
unfolding number
exponent_none bs all =
    let free = each bs all in
    let none : after_first is_letter bs ≡ [] = none_after is_letter bs free.1 in
    let whole : before_first is_letter bs ≡ bs = all_before is_letter bs free.1 in
    let point : after_first is_point (without_sign bs) ≡ [] = none_after is_point (without_sign bs) (either (λ b. not (is_point b)) (begins 45 bs || begins 43 bs) bs free.0) in
    rw (none, whole, point) refl

times_one : (m : ℤ) → m *ℤ pos 1 ≡ m
times_one m = omega (arith, ints)

is_written : (bs : List ℕ) (n : ℤ) → is_integer bs ≡ true → HasValue (number bs) n → n ≡ (number bs).significand
is_written bs n all h = subst (λ e. IsProduct (number bs).significand e n) (exponent_none bs all) h ∙ times_one (number bs).significand

has_written : (bs : List ℕ) → is_integer bs ≡ true → HasValue (number bs) (number bs).significand
has_written bs all = subst (λ e. IsProduct (number bs).significand e (number bs).significand) (sym (exponent_none bs all)) (sym (times_one (number bs).significand))

pub written_fits : (bs : List ℕ) (n : ℤ) → is_integer bs ≡ true → IsWhole (number bs) (Fits n) → Some n ≡ integer bs
unfolding integer
written_fits bs n all w =
    let same : n ≡ (number bs).significand = is_written bs n all w.0 in
    let small : is_i128 (number bs).significand ≡ true = fits_small (number bs).significand (subst (λ z. FitsSigned w128 z) same w.1) in
    rw (all, small) (ap Some same)

pub written_big : (bs : List ℕ) → is_integer bs ≡ true → IsWhole (number bs) TooBig → None ≡ integer bs
unfolding integer
written_big bs all w =
    by (is_i128 (number bs).significand) refl
  where
    by : (t : Bool) → is_i128 (number bs).significand ≡ t → None ≡ integer bs
    by true e = absurd (w.2 (subst (λ z. FitsSigned w128 z) (sym (is_written bs w.0 all w.1)) (small_fits (number bs).significand e)))
    by false e = rw (all, e) refl

pub written_fraction : (bs : List ℕ) → is_integer bs ≡ true → IsWhole (number bs) Fraction → None ≡ integer bs
written_fraction bs all w = absurd (w (number bs).significand (has_written bs all))

pub unwritten : (bs : List ℕ) → is_integer bs ≡ false → None ≡ integer bs
unfolding integer
unwritten bs e = rw e refl

-- what is written as an integer of 128 bits stands for it
pub integer_whole : (bs : List ℕ) (n : ℤ) → integer bs ≡ Some n → IsWhole (number bs) (Fits n)
unfolding integer
integer_whole bs n e =
    by (is_integer bs) (is_i128 (number bs).significand) refl refl
  where
    by : (t u : Bool) → is_integer bs ≡ t → is_i128 (number bs).significand ≡ u → IsWhole (number bs) (Fits n)
    by true true f g =
        let same : (number bs).significand ≡ n = same_Some _ _ (sym (rw (f, g) refl) ∙ e) in
        (subst (λ z. HasValue (number bs) z) same (has_written bs f), subst (λ z. FitsSigned w128 z) same (small_fits (number bs).significand g))
    by true false f g = absurd (none-some n (sym (rw (f, g) refl) ∙ e))
    by false u f g = absurd (none-some n (sym (rw f refl) ∙ e))

pub ruleset written = (written_fits, written_big, written_fraction, unwritten)
