-- The number that a run of digits forms.
use Rattle.std.proofs.Common.{◌≡◌, ℕ, zero, suc, ◌+◌, ◌-◌, ◌*◌, ◌^◌, ◌/◌, ◌%◌, ◌<◌, ◌≤◌, Bool, true, false, cond, List, [], ◌∷◌, length, length-drop, drop, set, get_or, refl, sym, ap, ◌∙◌, subst, add-one, add-zero, arith}
use Rattle.std.proofs.Math.Nat.{pow-suc, pow-zero, one-le-pow, mul-le-mul_right, mul_assoc, mul_comm, add-mul, add-suc}
use Rattle.std.proofs.lemmas.List.{get_or_past, drop-set, length-set}
use Rattle.std.proofs.lemmas.Bool.{leb-true, le-leb, and_parts}
use Rattle.std.specs.Prelude.{nat_le}
use Rattle.pv_number.specs.Scanning.{is_digit}
use Rattle.pv_number.specs.ExactNumber.{digit, natural, natural_after}
use Rattle.pv_number.specs.Decimals.{run}

pub digit_below : (b : ℕ) → digit b ≤ 9
digit_below b = by (is_digit b) refl
  where
    by : (x : Bool) → is_digit b ≡ x → cond x (b - 48) 0 ≤ 9
    by true e = let h = leb-true b 57 (and_parts (nat_le 48 b) (nat_le b 57) e).1 in omega arith
    by false e = omega arith

abbrev run_after : ℕ → List ℕ → ℕ → ℕ
run_after m ds zero = m
run_after m ds (suc n) = run_after m ds n * 10 + digit (get_or ds n 0)

run_after-cons : (m d : ℕ) (ds : List ℕ) (n : ℕ) → run_after m (d ∷ ds) (suc n) ≡ run_after (m * 10 + digit d) ds n
run_after-cons m d ds zero = refl
run_after-cons m d ds (suc n) = ap (λ x. x * 10 + digit (get_or ds n 0)) (run_after-cons m d ds n)

natural_run_after : (m : ℕ) (ds : List ℕ) → natural_after m ds ≡ run_after m ds (length ds)
natural_run_after m [] = refl
natural_run_after m (d ∷ ds) = natural_run_after (m * 10 + digit d) ds ∙ sym (run_after-cons m d ds (length ds))

run_is : (ds : List ℕ) (n : ℕ) → run ds 0 n ≡ run_after 0 ds n
unfolding run
run_is ds zero = refl
run_is ds (suc n) = let e : 0 + n ≡ n = omega arith in rw (e, run_is ds n) refl

pub natural_run : (ds : List ℕ) → natural ds ≡ run ds 0 (length ds)
natural_run ds = natural_run_after 0 ds ∙ sym (run_is ds (length ds))

pub run_none : (ds : List ℕ) (s : ℕ) → run ds s 0 ≡ 0
unfolding run
run_none ds s = refl

pub run_more : (ds : List ℕ) (s n : ℕ) → run ds s (n + 1) ≡ run ds s n * 10 + digit (get_or ds (s + n) 0)
unfolding run
run_more ds s n = rw (add-one n) refl

pub run_suc : (ds : List ℕ) (s n : ℕ) → run ds s (suc n) ≡ run ds s n * 10 + digit (get_or ds (s + n) 0)
unfolding run
run_suc ds s n = refl

pub run_below : (ds : List ℕ) (s n : ℕ) → run ds s n < 10 ^ n
run_below ds s zero = rw (run_none ds s) (omega arith)
run_below ds s (suc n) = let h = run_below ds s n in rw (run_suc ds s n, pow-suc 10 n) (omega (arith, digit_below (get_or ds (s + n) 0)))

-- behind the last digit
pub run_past : (ds : List ℕ) (s n j : ℕ) → length ds ≤ s + n → run ds s (n + j) ≡ run ds s n * 10 ^ j
run_past ds s n zero h = rw (add-zero n) (omega arith)
run_past ds s n (suc j) h =
    let none : get_or ds (s + (n + j)) 0 ≡ 0 = get_or_past ds (s + (n + j)) 0 (omega arith) in
    rw (add-suc n j, run_suc ds s (n + j), none, run_past ds s n j h, pow-suc 10 j) (omega arith)

pub run_grows : (ds : List ℕ) (s n j : ℕ) → run ds s n * 10 ^ j ≤ run ds s (n + j)
run_grows ds s n zero = rw (add-zero n) (omega arith)
run_grows ds s n (suc j) = let h = run_grows ds s n j in rw (add-suc n j, run_suc ds s (n + j), pow-suc 10 j) (omega arith)

pub run_le : (ds : List ℕ) (s n j : ℕ) → run ds s n ≤ run ds s (n + j)
run_le ds s n j = let h = run_grows ds s n j in let k = one-le-pow j 10 (omega arith) in omega (arith, mul-le-mul_right (run ds s n) k)

-- zeros in front
pub run_from : (ds : List ℕ) (s j : ℕ) → run ds 0 s ≡ 0 → run ds 0 (s + j) ≡ run ds s j
run_from ds s zero e = rw (add-zero s, run_none ds s) e
run_from ds s (suc j) e =
    let at : 0 + (s + j) ≡ s + j = omega arith in
    rw (add-suc s j, run_suc ds 0 (s + j), at, run_suc ds s j, run_from ds s j e) refl

-- the first digit that differs decides
pub run_less : (xs ys : List ℕ) (s t i j : ℕ) → run xs s i ≡ run ys t i → digit (get_or xs (s + i) 0) < digit (get_or ys (t + i) 0) → run xs s (i + 1 + j) < run ys t (i + 1 + j)
run_less xs ys s t i zero e h = rw (add-zero (i + 1), run_more xs s i, run_more ys t i, e) (omega arith)
run_less xs ys s t i (suc j) e h =
    let before = run_less xs ys s t i j e h in
    rw (add-suc (i + 1) j, run_suc xs s (i + 1 + j), run_suc ys t (i + 1 + j)) (omega (arith, digit_below (get_or xs (s + (i + 1 + j)) 0)))

-- ---- from the first digit on

pub run_next : (ds : List ℕ) (n : ℕ) → run ds 0 (n + 1) ≡ run ds 0 n * 10 + digit (get_or ds n 0)
run_next ds n = let at : 0 + n ≡ n = omega arith in rw (run_more ds 0 n, at) refl

pub zeros_more : (ds : List ℕ) (n : ℕ) → run ds 0 n ≡ 0 → digit (get_or ds n 0) ≡ 0 → run ds 0 (n + 1) ≡ 0
zeros_more ds n e d = rw (run_next ds n, e, d) refl

pub all_kept : (ds : List ℕ) → natural ds ≡ run ds 0 (length ds) * 10 ^ (length ds - length ds)
all_kept ds = let none : length ds - length ds ≡ 0 = omega arith in rw (none, natural_run ds, pow-zero 10) (omega arith)

pub kept_less : (ds : List ℕ) (m k : ℕ) → 0 < k → k ≤ length ds → digit (get_or ds (k - 1) 0) ≡ 0 → m ≡ run ds 0 k * 10 ^ (length ds - k) → m ≡ run ds 0 (k - 1) * 10 ^ (length ds - (k - 1))
kept_less ds m k some within none e =
    let at : k ≡ (k - 1) + 1 = omega arith in
    let less : run ds 0 k ≡ run ds 0 (k - 1) * 10 = ap (run ds 0) at ∙ omega (arith, run_next ds (k - 1)) in
    let up : length ds - (k - 1) ≡ suc (length ds - k) = omega arith in
    rw (e, less, up, pow-suc 10 (length ds - k), mul_assoc, mul_comm 10 (10 ^ (length ds - k))) refl

-- a front that is too large makes the whole too large
pub front_large : (ds : List ℕ) (i count b : ℕ) → i < count → b ≤ run ds 0 i * 10 + digit (get_or ds i 0) → run ds 0 count < b → ⊥
front_large ds i count b l h below =
    let at : (i + 1) + (count - (i + 1)) ≡ count = omega arith in
    let grows : run ds 0 (i + 1) ≤ run ds 0 count = subst (λ k. run ds 0 (i + 1) ≤ run ds 0 k) at (run_le ds 0 (i + 1) (count - (i + 1))) in
    absurd (omega (arith, run_next ds i))

pub front_large_first : (ds : List ℕ) (i count b : ℕ) → i < count → b ≤ run ds 0 i * 10 → run ds 0 count < b → ⊥
front_large_first ds i count b l h below = front_large ds i count b l (omega arith) below

-- ---- a digit counted from the last one

pub rank_within : (ds : List ℕ) (rank : ℕ) → rank < length ds → run ds 0 (length ds - rank) ≡ run ds 0 (length ds - (rank + 1)) * 10 + digit (get_or ds (length ds - 1 - rank) 0)
rank_within ds rank h =
    let up : length ds - rank ≡ (length ds - (rank + 1)) + 1 = omega arith in
    let at : length ds - (rank + 1) ≡ length ds - 1 - rank = omega arith in
    ap (run ds 0) up ∙ run_next ds (length ds - (rank + 1)) ∙ ap (λ k. run ds 0 (length ds - (rank + 1)) * 10 + digit (get_or ds k 0)) at

pub rank_past : (ds : List ℕ) (rank : ℕ) → length ds ≤ rank → run ds 0 (length ds - rank) ≡ run ds 0 (length ds - (rank + 1)) * 10 + 0
rank_past ds rank h =
    let here : length ds - rank ≡ 0 = omega arith in
    let there : length ds - (rank + 1) ≡ 0 = omega arith in
    rw (here, there, run_none ds 0) refl

pub front_whole : (ds : List ℕ) (place count value : ℕ) → place ≡ count → value < 2 ^ 128 → value ≡ run ds 0 place → (run ds 0 count < 2 ^ 128) × (value ≡ run ds 0 count)
front_whole ds place count value e h v = let w = v ∙ ap (run ds 0) e in (subst (λ x. x < 2 ^ 128) w h, w)

-- ---- digits written from the last one on

natural_from : (n : ℕ) (ds : List ℕ) → natural_after n ds ≡ n * 10 ^ length ds + natural_after 0 ds
natural_from n [] = rw (pow-zero 10) (omega arith)
natural_from n (d ∷ ds) =
    let here = natural_from (n * 10 + digit d) ds in
    let first = natural_from (0 * 10 + digit d) ds in
    let up : 10 ^ suc (length ds) ≡ 10 ^ length ds * 10 = pow-suc 10 (length ds) in
    let left : (n * 10 + digit d) * 10 ^ length ds ≡ n * (10 ^ length ds * 10) + digit d * 10 ^ length ds = add-mul (n * 10) (digit d) (10 ^ length ds) ∙ ap (λ k. k + digit d * 10 ^ length ds) (mul_assoc n 10 (10 ^ length ds) ∙ ap (λ k. n * k) (mul_comm 10 (10 ^ length ds))) in
    let right : (0 * 10 + digit d) * 10 ^ length ds ≡ digit d * 10 ^ length ds = ap (λ k. k * 10 ^ length ds) (omega arith) in
    rw up (omega arith)

pub natural_cons : (d : ℕ) (ds : List ℕ) → natural (d ∷ ds) ≡ digit d * 10 ^ length ds + natural ds
natural_cons d ds = let none : 0 * 10 + digit d ≡ digit d = omega arith in ap (λ k. natural_after k ds) none ∙ natural_from (digit d) ds

digit_of : (n : ℕ) → n ≤ 9 → digit (48 + n) ≡ n
digit_of n h = rw (le-leb 48 (48 + n) (omega arith), le-leb (48 + n) 57 (omega arith)) (omega arith)

written_more : (buf : List ℕ) (value rest s : ℕ) → suc s ≤ length buf → rest < 10 ^ suc s → value ≡ rest * 10 ^ (length buf - suc s) + natural (drop (suc s) buf)
    → (s ≤ length (set buf s (48 + rest % 10))) × (rest / 10 < 10 ^ s) × (value ≡ rest / 10 * 10 ^ (length (set buf s (48 + rest % 10)) - s) + natural (drop s (set buf s (48 + rest % 10))))
written_more buf value rest s within below is =
    let v = 48 + rest % 10 in
    let size : length (set buf s (48 + rest % 10)) ≡ length buf = length-set buf s (48 + rest % 10) in
    let tail : drop s (set buf s (48 + rest % 10)) ≡ (48 + rest % 10) ∷ drop (s + 1) buf = drop-set buf s (48 + rest % 10) (omega arith) in
    let one : digit (48 + rest % 10) ≡ rest % 10 = digit_of (rest % 10) (omega arith) in
    let behind : length (drop (suc s) buf) ≡ length buf - suc s = length-drop (suc s) buf in
    let up : length buf - s ≡ suc (length buf - suc s) = omega arith in
    let p = 10 ^ (length buf - suc s) in
    let parts : rest ≡ rest / 10 * 10 + rest % 10 = omega arith in
    let split : rest * 10 ^ (length buf - suc s) ≡ rest / 10 * (10 ^ (length buf - suc s) * 10) + rest % 10 * 10 ^ (length buf - suc s) =
    ap (λ k. k * 10 ^ (length buf - suc s)) parts ∙ add-mul (rest / 10 * 10) (rest % 10) (10 ^ (length buf - suc s)) ∙ ap (λ k. k + rest % 10 * 10 ^ (length buf - suc s)) (mul_assoc (rest / 10) 10 (10 ^ (length buf - suc s)) ∙ ap (λ k. rest / 10 * k) (mul_comm 10 (10 ^ (length buf - suc s)))) in
    let whole : natural (drop s (set buf s (48 + rest % 10))) ≡ rest % 10 * 10 ^ (length buf - suc s) + natural (drop (suc s) buf) =
    ap natural tail ∙ natural_cons (48 + rest % 10) (drop (s + 1) buf) ∙ ap (λ k. digit (48 + rest % 10) * 10 ^ length (drop k buf) + natural (drop k buf)) (add-one s) ∙ rw (one, behind) refl in
    let less : 10 ^ suc s ≡ 10 ^ s * 10 = pow-suc 10 s in
    (omega arith, omega arith, rw (size, up, pow-suc 10 (length buf - suc s), whole) (omega arith))

pub written_step : (buf : List ℕ) (value rest start : ℕ) → 0 < rest → start ≤ length buf → rest < 10 ^ start → value ≡ rest * 10 ^ (length buf - start) + natural (drop start buf)
    → (start - 1 ≤ length (set buf (start - 1) (48 + rest % 10))) × (rest / 10 < 10 ^ (start - 1)) × (value ≡ rest / 10 * 10 ^ (length (set buf (start - 1) (48 + rest % 10)) - (start - 1)) + natural (drop (start - 1) (set buf (start - 1) (48 + rest % 10))))
written_step buf value rest zero some within below is = absurd (let h = rw (pow-zero 10) at below in omega arith)
written_step buf value rest (suc s) some within below is = let e : suc s - 1 ≡ s = omega arith in rw e (written_more buf value rest s within below is)
