-- The order of two numbers, by their signs, their first digits and their digits.
use Rattle.std.proofs.Common.{◌≡◌, ℕ, zero, suc, ◌+◌, ◌-◌, ◌*◌, ◌^◌, ◌<◌, ◌≤◌, Bool, true, false, cond, List, length, get_or, ℤ, pos, negsuc, neg_ℤ, ◌+ℤ◌, ◌-ℤ◌, ◌≤ℤ◌, ◌<ℤ◌, refl, sym, ap, ◌∙◌, subst, inl, inr, arith, length-append, append-nil, [], ◌++◌, take, drop}
use Rattle.std.proofs.lemmas.List.{take_rest}
use Rattle.std.proofs.Math.Nat.{pow-le-pow_right, one-le-pow, mul-pos, mul-le-mul_right}
use Rattle.std.proofs.lemmas.Int.{ints, clamps}
use Rattle.std.proofs.lemmas.Bool.{ne_eqb, le-ltb}
use Rattle.std.specs.Prelude.{unsigned_abs, int_lt, ◌⊎◌, ◌==◌}
use Rattle.std.specs.Int.{int_min}
use Rattle.std.specs.Ordering.{MatchOrdering}
use Rattle.std.specs.Cmp.{int_cmp_is}
use Rattle.std.specs.declared.cmp.Ordering.{Ordering}
use Rattle.std.specs.declared.cmp.Ordering.TheVariants.{Less, Equal, Greater}
use Rattle.pv_number.specs.ExactNumber.{Number, signed, natural, digit}
use Rattle.pv_number.specs.NumberEquality.{least_exponent, scaled, number_cmp, int_number}
use Rattle.pv_number.specs.declared.decimal.Decimal.{Decimal}
use Rattle.pv_number.specs.Decimals.{capped, run, digits, exponent_of, number_of, sign_of, Ranks}
use Rattle.pv_number.proofs.WholeValue.{signed_times}
use Rattle.pv_number.proofs.Runs.{run_none, run_more, run_past, run_from, run_grows, run_below, run_less, natural_run, run_next}

-- ---- signs

pub none_kept : (ds : List ℕ) (kept : ℕ) → kept ≡ 0 → natural ds ≡ run ds 0 kept * 10 ^ (length ds - kept) → natural ds ≡ 0
none_kept ds kept none e = e ∙ ap (λ k. run ds 0 k * 10 ^ (length ds - k)) none ∙ ap (λ d. d * 10 ^ (length ds - 0)) (run_none ds 0) ∙ omega arith

pub some_kept : (ds : List ℕ) (kept : ℕ) → (kept ≡ 0 → ⊥) → (0 < kept → 0 < digit (get_or ds (kept - 1) 0)) → natural ds ≡ run ds 0 kept * 10 ^ (length ds - kept) → (natural ds == 0) ≡ false
some_kept ds kept some last e =
    let at : kept ≡ (kept - 1) + 1 = omega arith in
    let is : run ds 0 kept ≡ run ds 0 (kept - 1) * 10 + digit (get_or ds (kept - 1) 0) = ap (run ds 0) at ∙ run_next ds (kept - 1) in
    let has : 0 < digit (get_or ds (kept - 1) 0) = last (omega arith) in
    let more : 0 < run ds 0 kept * 10 ^ (length ds - kept) = mul-pos (omega arith) (one-le-pow (length ds - kept) 10 (omega arith)) in
    ne_eqb (natural ds) 0 (omega arith)

-- ---- digits

pub both_more : (xs ys : List ℕ) (s t n : ℕ) → run xs s n ≡ run ys t n → digit (get_or xs (s + n) 0) ≡ digit (get_or ys (t + n) 0) → run xs s (n + 1) ≡ run ys t (n + 1)
both_more xs ys s t n e d = rw (run_more xs s n, run_more ys t n, e, d) refl

pub less_from : (xs ys : List ℕ) (s t i n : ℕ) → i < n → run xs s i ≡ run ys t i → digit (get_or xs (s + i) 0) < digit (get_or ys (t + i) 0) → run xs s n < run ys t n
less_from xs ys s t i n l e h =
    let at : i + 1 + (n - (i + 1)) ≡ n = omega arith in
    let P : ℕ → Type 0 = λ k. run xs s k < run ys t k in
    subst P at (run_less xs ys s t i (n - (i + 1)) e h)

pub same_from : (xs ys : List ℕ) (s t i n : ℕ) → length xs - s ≤ i → length ys - t ≤ i → i ≤ n → run xs s i ≡ run ys t i → run xs s n ≡ run ys t n
same_from xs ys s t i n a b l e =
    let at : i + (n - i) ≡ n = omega arith in
    let P : ℕ → Type 0 = λ k. run xs s k ≡ run ys t k in
    subst P at (rw (run_past xs s i (n - i) (omega arith), run_past ys t i (n - i) (omega arith), e) refl)

-- ---- sizes

-- the digits behind the zeros in front, with zeros behind them
run_scaled : (ds : List ℕ) (s p : ℕ) → s ≤ length ds → run ds 0 s ≡ 0 → natural ds * 10 ^ p ≡ run ds s (length ds - s + p)
run_scaled ds s p l zeros =
    let at : s + (length ds - s) ≡ length ds = omega arith in
    let is : natural ds ≡ run ds s (length ds - s) = natural_run ds ∙ ap (run ds 0) (sym at) ∙ run_from ds s (length ds - s) zeros in
    rw is (sym (run_past ds s (length ds - s) p (omega arith)))

abbrev HasFirst : List ℕ → ℕ → Type 0
HasFirst ds s = s < length ds → 0 < digit (get_or ds s 0)

first_counts : (ds : List ℕ) (s n : ℕ) → s ≤ length ds → run ds 0 s ≡ 0 → HasFirst ds s → 0 < natural ds → 0 < n → 10 ^ (n - 1) ≤ run ds s n
first_counts ds s n l zeros first some h =
    let inside : s < length ds = by (length ds - s) refl in
    let has : 0 < digit (get_or ds s 0) = first inside in
    let zero_more : s + 0 ≡ s = omega arith in
    let none : 0 + 1 ≡ 1 = refl in
    let one : run ds s 1 ≡ digit (get_or ds s 0) = run_more ds s 0 ∙ ap (λ k. run ds s 0 * 10 + digit (get_or ds k 0)) zero_more ∙ ap (λ k. k * 10 + digit (get_or ds s 0)) (run_none ds s) ∙ omega arith in
    let at : 1 + (n - 1) ≡ n = omega arith in
    let grows : run ds s 1 * 10 ^ (n - 1) ≤ run ds s n = subst (λ k. run ds s 1 * 10 ^ (n - 1) ≤ run ds s k) at (run_grows ds s 1 (n - 1)) in
    let up : 1 * 10 ^ (n - 1) ≤ run ds s 1 * 10 ^ (n - 1) = mul-le-mul_right (10 ^ (n - 1)) (omega arith) in
    omega arith
  where
    by : (k : ℕ) → length ds - s ≡ k → s < length ds
    by zero e = absurd (let all : s ≡ length ds = omega arith in let none : natural ds ≡ 0 = natural_run ds ∙ ap (run ds 0) (sym all) ∙ zeros in omega arith)
    by (suc k) e = omega arith

pub shorter : (xs ys : List ℕ) (s t p q : ℕ) → s ≤ length xs → run xs 0 s ≡ 0 → t ≤ length ys → run ys 0 t ≡ 0 → HasFirst ys t → 0 < natural ys → length xs - s + p < length ys - t + q → natural xs * 10 ^ p < natural ys * 10 ^ q
shorter xs ys s t p q ls zs lt zt first some h =
    let below = run_below xs s (length xs - s + p) in
    let above = first_counts ys t (length ys - t + q) lt zt first some (omega arith) in
    let up : 10 ^ (length xs - s + p) ≤ 10 ^ (length ys - t + q - 1) = pow-le-pow_right {n = 10} (omega arith) {i = length xs - s + p} {j = length ys - t + q - 1} (omega arith) in
    rw (run_scaled xs s p ls zs, run_scaled ys t q lt zt) (omega arith)

pub level : (r : Ordering) (xs ys : List ℕ) (s t p q : ℕ) → s ≤ length xs → run xs 0 s ≡ 0 → t ≤ length ys → run ys 0 t ≡ 0 → ((n : ℕ) → length xs - s ≤ n → length ys - t ≤ n → Ranks r (run xs s n) (run ys t n)) → length xs - s + p ≡ length ys - t + q → Ranks r (natural xs * 10 ^ p) (natural ys * 10 ^ q)
level r xs ys s t p q ls zs lt zt ranks h =
    let ranked = ranks (length xs - s + p) (omega arith) (omega arith) in
    rw (run_scaled xs s p ls zs, run_scaled ys t q lt zt, ← h) ranked

-- ---- of two numbers taken apart

abbrev IsFirstDifference : Decimal → ℕ → Decimal → ℕ → ℤ → Type 0
IsFirstDifference a s b t above = above ≡ capped (exponent_of a.exponent -ℤ exponent_of b.exponent) +ℤ pos (length a.whole.now) -ℤ pos s +ℤ pos t -ℤ pos (length b.whole.now)

abbrev HasExponents : Decimal → Decimal → ℕ → ℕ → Type 0
HasExponents a b p q = pos p -ℤ pos q ≡ (number_of a).exponent -ℤ (number_of b).exponent

abbrev IsSkip : Decimal → ℕ → Type 0
IsSkip d s = (s ≤ length (digits d)) × (run (digits d) 0 s ≡ 0) × HasFirst (digits d) s

counts_less : (x y above : ℤ) (wa fa wb fb s t p q : ℕ) → wa < 2 ^ 64 → wb < 2 ^ 64 → s < 2 ^ 64 → t < 2 ^ 64 → s ≤ wa + fa → t ≤ wb + fb → above ≡ capped (x -ℤ y) +ℤ pos wa -ℤ pos s +ℤ pos t -ℤ pos wb → pos p -ℤ pos q ≡ x -ℤ pos fa -ℤ (y -ℤ pos fb) → above <ℤ pos 0 → wa + fa - s + p < wb + fb - t + q
unfolding capped
counts_less x y above wa fa wb fb s t p q h1 h2 h3 h4 h5 h6 is e below = omega (arith, ints, clamps)

counts_more : (x y above : ℤ) (wa fa wb fb s t p q : ℕ) → wa < 2 ^ 64 → wb < 2 ^ 64 → s < 2 ^ 64 → t < 2 ^ 64 → s ≤ wa + fa → t ≤ wb + fb → above ≡ capped (x -ℤ y) +ℤ pos wa -ℤ pos s +ℤ pos t -ℤ pos wb → pos p -ℤ pos q ≡ x -ℤ pos fa -ℤ (y -ℤ pos fb) → pos 0 <ℤ above → wb + fb - t + q < wa + fa - s + p
unfolding capped
counts_more x y above wa fa wb fb s t p q h1 h2 h3 h4 h5 h6 is e past = omega (arith, ints, clamps)

counts_same : (x y above : ℤ) (wa fa wb fb s t p q : ℕ) → wa < 2 ^ 64 → wb < 2 ^ 64 → s < 2 ^ 64 → t < 2 ^ 64 → s ≤ wa + fa → t ≤ wb + fb → above ≡ capped (x -ℤ y) +ℤ pos wa -ℤ pos s +ℤ pos t -ℤ pos wb → pos p -ℤ pos q ≡ x -ℤ pos fa -ℤ (y -ℤ pos fb) → above ≡ pos 0 → wa + fa - s + p ≡ wb + fb - t + q
unfolding capped
counts_same x y above wa fa wb fb s t p q h1 h2 h3 h4 h5 h6 is e none = omega (arith, ints, clamps)

pub sizes_less : (a b : Decimal) (s t : ℕ) (above : ℤ) → length a.whole.now < 2 ^ 64 → length b.whole.now < 2 ^ 64 → s < 2 ^ 64 → t < 2 ^ 64 → IsSkip a s → IsSkip b t → 0 < natural (digits b) → IsFirstDifference a s b t above → above <ℤ pos 0 → (p q : ℕ) → HasExponents a b p q → natural (digits a) * 10 ^ p < natural (digits b) * 10 ^ q
sizes_less a b s t above wa wb ls lt sa tb some is below p q e =
    let la = length-append a.whole.now a.fraction.now in
    let lb = length-append b.whole.now b.fraction.now in
    let counts = counts_less (exponent_of a.exponent) (exponent_of b.exponent) above (length a.whole.now) (length a.fraction.now) (length b.whole.now) (length b.fraction.now) s t p q wa wb ls lt (rw la at sa.0) (rw lb at tb.0) is e below in
    shorter (digits a) (digits b) s t p q sa.0 sa.1 tb.0 tb.1 tb.2 some (rw (la, lb) counts)

pub sizes_more : (a b : Decimal) (s t : ℕ) (above : ℤ) → length a.whole.now < 2 ^ 64 → length b.whole.now < 2 ^ 64 → s < 2 ^ 64 → t < 2 ^ 64 → IsSkip a s → IsSkip b t → 0 < natural (digits a) → IsFirstDifference a s b t above → pos 0 <ℤ above → (p q : ℕ) → HasExponents a b p q → natural (digits b) * 10 ^ q < natural (digits a) * 10 ^ p
sizes_more a b s t above wa wb ls lt sa tb some is past p q e =
    let la = length-append a.whole.now a.fraction.now in
    let lb = length-append b.whole.now b.fraction.now in
    let counts = counts_more (exponent_of a.exponent) (exponent_of b.exponent) above (length a.whole.now) (length a.fraction.now) (length b.whole.now) (length b.fraction.now) s t p q wa wb ls lt (rw la at sa.0) (rw lb at tb.0) is e past in
    shorter (digits b) (digits a) t s q p tb.0 tb.1 sa.0 sa.1 sa.2 some (rw (la, lb) counts)

pub sizes_level : (r : Ordering) (a b : Decimal) (s t : ℕ) (above : ℤ) → length a.whole.now < 2 ^ 64 → length b.whole.now < 2 ^ 64 → s < 2 ^ 64 → t < 2 ^ 64 → IsSkip a s → IsSkip b t → IsFirstDifference a s b t above → above ≡ pos 0
    → ((n : ℕ) → length (digits a) - s ≤ n → length (digits b) - t ≤ n → Ranks r (run (digits a) s n) (run (digits b) t n)) → (p q : ℕ) → HasExponents a b p q → Ranks r (natural (digits a) * 10 ^ p) (natural (digits b) * 10 ^ q)
sizes_level r a b s t above wa wb ls lt sa tb is none ranks p q e =
    let la = length-append a.whole.now a.fraction.now in
    let lb = length-append b.whole.now b.fraction.now in
    let counts = counts_same (exponent_of a.exponent) (exponent_of b.exponent) above (length a.whole.now) (length a.fraction.now) (length b.whole.now) (length b.fraction.now) s t p q wa wb ls lt (rw la at sa.0) (rw lb at tb.0) is e none in
    level r (digits a) (digits b) s t p q sa.0 sa.1 tb.0 tb.1 ranks (rw (la, lb) counts)

-- ---- with signs

abbrev sign_at : Bool → ℕ → ℤ
sign_at minus n = cond (n == 0) (pos 0) (cond minus (negsuc 0) (pos 1))

sign_at_times : (minus : Bool) (n p : ℕ) → 0 < p → sign_at minus (n * p) ≡ sign_at minus n
sign_at_times minus zero p some = let none : 0 * p ≡ 0 = omega arith in rw none refl
sign_at_times minus (suc n) p some =
    let more : 0 < suc n * p = mul-pos (omega arith) some in
    rw (ne_eqb (suc n * p) 0 (omega arith), ne_eqb (suc n) 0 (omega arith)) refl

abbrev Tells : ℤ → ℤ → Type 0
Tells g z = ((g ≡ pos 0) × (z ≡ pos 0)) ⊎ (((g ≡ negsuc 0) × (z <ℤ pos 0)) ⊎ ((g ≡ pos 1) × (pos 0 <ℤ z)))

sign_tells : (minus : Bool) (n : ℕ) → Tells (sign_at minus n) (signed minus n)
sign_tells true zero = inl (refl, refl)
sign_tells false zero = inl (refl, refl)
sign_tells true (suc n) = rw (ne_eqb (suc n) 0 (omega arith)) (inr (inl (refl, omega (arith, ints))))
sign_tells false (suc n) = rw (ne_eqb (suc n) 0 (omega arith)) (inr (inr (refl, omega (arith, ints))))

tells_less : (g h x y : ℤ) → Tells g x → Tells h y → g <ℤ h → x <ℤ y
tells_less g h x y (inl p) (inl q) l = omega (arith, ints)
tells_less g h x y (inl p) (inr (inl q)) l = omega (arith, ints)
tells_less g h x y (inl p) (inr (inr q)) l = omega (arith, ints)
tells_less g h x y (inr (inl p)) (inl q) l = omega (arith, ints)
tells_less g h x y (inr (inl p)) (inr (inl q)) l = omega (arith, ints)
tells_less g h x y (inr (inl p)) (inr (inr q)) l = omega (arith, ints)
tells_less g h x y (inr (inr p)) (inl q) l = omega (arith, ints)
tells_less g h x y (inr (inr p)) (inr (inl q)) l = omega (arith, ints)
tells_less g h x y (inr (inr p)) (inr (inr q)) l = omega (arith, ints)

tells_zero : (g x : ℤ) → Tells g x → g ≡ pos 0 → x ≡ pos 0
tells_zero g x (inl p) e = p.1
tells_zero g x (inr (inl p)) e = absurd (omega (arith, ints))
tells_zero g x (inr (inr p)) e = absurd (omega (arith, ints))

sign_above : (minus : Bool) (n : ℕ) → pos 0 <ℤ sign_at minus n → minus ≡ false
sign_above true zero h = absurd (omega (arith, ints))
sign_above true (suc n) h = absurd (let g = rw (ne_eqb (suc n) 0 (omega arith)) at h in omega (arith, ints))
sign_above false n h = refl

sign_under : (minus : Bool) (n : ℕ) → sign_at minus n <ℤ pos 0 → minus ≡ true
sign_under true n h = refl
sign_under false zero h = absurd (omega (arith, ints))
sign_under false (suc n) h = absurd (let g = rw (ne_eqb (suc n) 0 (omega arith)) at h in omega (arith, ints))

above_ranks : (r : Ordering) (x y : ℕ) → Ranks r x y → MatchOrdering r (signed false x <ℤ signed false y) (signed false x ≡ signed false y) (signed false y <ℤ signed false x)
above_ranks Less x y h = omega (arith, ints)
above_ranks Equal x y h = ap pos h
above_ranks Greater x y h = omega (arith, ints)

under_ranks : (r : Ordering) (x y : ℕ) → Ranks r y x → MatchOrdering r (signed true x <ℤ signed true y) (signed true x ≡ signed true y) (signed true y <ℤ signed true x)
under_ranks Less x y h = omega (arith, ints)
under_ranks Equal x y h = ap (λ n. neg_ℤ (pos n)) (sym h)
under_ranks Greater x y h = omega (arith, ints)

-- ---- the order

abbrev value_at : Decimal → ℕ → ℤ
value_at d p = signed d.negative (natural (digits d) * 10 ^ p)

abbrev Compares : Ordering → Decimal → Decimal → Type 0
Compares r a b = (p q : ℕ) → HasExponents a b p q → MatchOrdering r (value_at a p <ℤ value_at b q) (value_at a p ≡ value_at b q) (value_at b q <ℤ value_at a p)

size_of : (z : ℤ) → pos 0 ≤ℤ z → pos (unsigned_abs z) ≡ z
size_of (pos n) h = refl
size_of (negsuc n) h = absurd (omega (arith, ints))

shifts : (x y k : ℤ) → k ≡ int_min x y → pos (unsigned_abs (x -ℤ k)) -ℤ pos (unsigned_abs (y -ℤ k)) ≡ x -ℤ y
shifts x y k e =
    let left = size_of (x -ℤ k) (omega (arith, ints, clamps)) in
    let right = size_of (y -ℤ k) (omega (arith, ints, clamps)) in
    omega (arith, ints)

compared : (a b : Decimal) (r : Ordering) → Compares r a b → r ≡ number_cmp (number_of a) (number_of b)
unfolding number_cmp
compared a b r h =
    let k = least_exponent (number_of a) (number_of b) in
    let p = unsigned_abs ((number_of a).exponent -ℤ k) in
    let q = unsigned_abs ((number_of b).exponent -ℤ k) in
    int_cmp_is (scaled (number_of a) k) (scaled (number_of b) k) r
    (rw (signed_times a.negative (natural (digits a)) (10 ^ p), signed_times b.negative (natural (digits b)) (10 ^ q)) (h p q (shifts (number_of a).exponent (number_of b).exponent k refl)))

tells_of : (d : Decimal) (p : ℕ) → Tells (sign_of d) (value_at d p)
tells_of d p = subst (λ g. Tells g (value_at d p)) (sign_at_times d.negative (natural (digits d)) (10 ^ p) (one-le-pow p 10 (omega arith))) (sign_tells d.negative (natural (digits d) * 10 ^ p))

pub less_by_sign : (a b : Decimal) → sign_of a <ℤ sign_of b → Less ≡ number_cmp (number_of a) (number_of b)
less_by_sign a b l = compared a b Less (λ p q e. tells_less (sign_of a) (sign_of b) (value_at a p) (value_at b q) (tells_of a p) (tells_of b q) l)

pub more_by_sign : (a b : Decimal) → sign_of b <ℤ sign_of a → Greater ≡ number_cmp (number_of a) (number_of b)
more_by_sign a b l = compared a b Greater (λ p q e. tells_less (sign_of b) (sign_of a) (value_at b q) (value_at a p) (tells_of b q) (tells_of a p) l)

pub both_zero : (a b : Decimal) → sign_of a ≡ pos 0 → sign_of b ≡ pos 0 → Equal ≡ number_cmp (number_of a) (number_of b)
both_zero a b x y = compared a b Equal (λ p q e. tells_zero (sign_of a) (value_at a p) (tells_of a p) x ∙ sym (tells_zero (sign_of b) (value_at b q) (tells_of b q) y))

pub both_above : (a b : Decimal) (r : Ordering) → pos 0 <ℤ sign_of a → pos 0 <ℤ sign_of b → ((p q : ℕ) → HasExponents a b p q → Ranks r (natural (digits a) * 10 ^ p) (natural (digits b) * 10 ^ q)) → r ≡ number_cmp (number_of a) (number_of b)
both_above a b r x y ranks =
    compared a b r (λ p q e. rw (sign_above a.negative (natural (digits a)) x, sign_above b.negative (natural (digits b)) y) (above_ranks r (natural (digits a) * 10 ^ p) (natural (digits b) * 10 ^ q) (ranks p q e)))

turned : (a b : Decimal) (p q : ℕ) → HasExponents a b p q → HasExponents b a q p
turned a b p q e = omega (arith, ints)

pub both_under : (a b : Decimal) (r : Ordering) → sign_of a <ℤ pos 0 → sign_of b <ℤ pos 0 → ((p q : ℕ) → HasExponents b a p q → Ranks r (natural (digits b) * 10 ^ p) (natural (digits a) * 10 ^ q)) → r ≡ number_cmp (number_of a) (number_of b)
both_under a b r x y ranks =
    compared a b r (λ p q e. rw (sign_under a.negative (natural (digits a)) x, sign_under b.negative (natural (digits b)) y) (under_ranks r (natural (digits a) * 10 ^ p) (natural (digits b) * 10 ^ q) (ranks q p (turned a b p q e))))

pub some_signed : (d : Decimal) → (sign_of d ≡ pos 0 → ⊥) → 0 < natural (digits d)
some_signed d h = by (natural (digits d)) refl
  where
    by : (n : ℕ) → natural (digits d) ≡ n → 0 < natural (digits d)
    by zero e = absurd (h (rw e refl))
    by (suc n) e = omega arith

-- ---- a whole number, by its digits

pub signed_int : (n : ℤ) → signed (int_lt n (pos 0)) (unsigned_abs n) ≡ n
signed_int (pos a) = rw (le-ltb a 0 (omega arith)) refl
signed_int (negsuc a) = refl

pub integer_of : (minus : Bool) (ds : List ℕ) (e : ℤ) → e ≡ pos 0 → (let x : Number = record { significand = signed minus (natural (ds ++ [])); exponent = e -ℤ pos 0 } in x) ≡ int_number (signed minus (natural ds))
integer_of minus ds e flat = rw (append-nil ds, flat) refl

pub int_order : (r : Ordering) (x y : Number) (a d : Decimal) → r ≡ number_cmp (number_of a) (number_of d) → number_of a ≡ x → number_of d ≡ y → r ≡ number_cmp x y
int_order r x y a d e p q = e ∙ ap (λ y. number_cmp y (number_of d)) p ∙ ap (number_cmp x) q

pub int_value : (x : Number) (n z : ℤ) (buffer : List ℕ) (start size : ℕ) → z ≡ n → length buffer ≡ 39 → x ≡ int_number (signed (int_lt z (pos 0)) (natural (take (39 - start) (drop start buffer)))) → natural (drop start buffer) ≡ size → size ≡ unsigned_abs z → x ≡ int_number n
int_value x n z buffer start size same len is digits sized =
    let all : take (39 - start) (drop start buffer) ≡ drop start buffer = ap (λ k. take (k - start) (drop start buffer)) (sym len) ∙ take_rest buffer start in
    is ∙ ap (λ t. int_number (signed (int_lt z (pos 0)) (natural t))) all ∙ ap (λ k. int_number (signed (int_lt z (pos 0)) k)) (digits ∙ sized) ∙ ap int_number (signed_int z ∙ same)
