-- The positions that take the items of a tuple, by the places of the items.
use Rattle.std.proofs.Common.{◌≡◌, ℕ, zero, suc, ◌+◌, ◌-◌, ◌<◌, ◌≤◌, List, [], ◌∷◌, ◌++◌, length, Some, None, slice_get, refl, sym, ap, ◌∙◌, arith}
use Rattle.pv_walk.specs.Rules.{run_of, times, takers_of}

run_at : (at n i : ℕ) → i < n → slice_get (run_of at n) i ≡ Some (at + i)
run_at at zero i l = absurd (omega (arith, l))
run_at at (suc n) zero l = let same : at ≡ at + 0 = omega arith in ap Some same
run_at at (suc n) (suc i) l =
    let same : at + 1 + i ≡ at + suc i = omega arith in run_at (at + 1) n i (omega (arith, l)) ∙ ap Some same

run_behind : (at n i : ℕ) → n ≤ i → slice_get (run_of at n) i ≡ None
run_behind at zero i l = refl
run_behind at (suc n) zero l = absurd (omega (arith, l))
run_behind at (suc n) (suc i) l = run_behind (at + 1) n i (omega (arith, l))

run_length : (at n : ℕ) → length (run_of at n) ≡ n
run_length at zero = refl
run_length at (suc n) = ap suc (run_length (at + 1) n)

times_at : (v n i : ℕ) → i < n → slice_get (times v n) i ≡ Some v
times_at v zero i l = absurd (omega (arith, l))
times_at v (suc n) zero l = refl
times_at v (suc n) (suc i) l = times_at v n i (omega (arith, l))

times_length : (v n : ℕ) → length (times v n) ≡ n
times_length v zero = refl
times_length v (suc n) = ap suc (times_length v n)

front_at : (xs ys : List ℕ) (i : ℕ) → i < length xs → slice_get (xs ++ ys) i ≡ slice_get xs i
front_at [] ys i l = absurd (omega (arith, l))
front_at (x ∷ xs) ys zero l = refl
front_at (x ∷ xs) ys (suc i) l = front_at xs ys i (omega (arith, l))

behind_at : (xs ys : List ℕ) (i j : ℕ) → i ≡ length xs + j → slice_get (xs ++ ys) i ≡ slice_get ys j
behind_at [] ys i j e = let same : i ≡ j = omega (arith, e) in ap (slice_get ys) same
behind_at (x ∷ xs) ys zero j e = absurd (omega (arith, e))
behind_at (x ∷ xs) ys (suc i) j e = behind_at xs ys i j (omega (arith, e))

pub run_in : (n i : ℕ) → i < n → Some i ≡ slice_get (run_of 0 n) i
run_in n i l = sym (run_at 0 n i l ∙ (let same : 0 + i ≡ i = omega arith in ap Some same))

pub run_past : (n i : ℕ) → n ≤ i → None ≡ slice_get (run_of 0 n) i
run_past n i l = sym (run_behind 0 n i l)

module _ (v positions items place : ℕ) where
  abbrev left : ℕ
  left = items - (positions - 1)

  abbrev behind : List ℕ
  behind = times v left ++ run_of (v + 1) (positions - 1 - v)

  pub first_ones : place < v → Some place ≡ slice_get (takers_of (Some v) positions items) place
  first_ones l =
      let n : length (run_of 0 v) ≡ v = run_length 0 v in
      run_in v place l ∙ sym (front_at (run_of 0 v) behind place (omega (arith, n, l)))

  past : (j : ℕ) → place ≡ v + j → slice_get (takers_of (Some v) positions items) place ≡ slice_get behind j
  past j e = let n : length (run_of 0 v) ≡ v = run_length 0 v in behind_at (run_of 0 v) behind place j (omega (arith, n, e))

  pub repeated_one : v ≤ place → place - v < left → Some v ≡ slice_get (takers_of (Some v) positions items) place
  repeated_one l m =
      let n : length (times v left) ≡ left = times_length v left in
      sym (past (place - v) (omega (arith, l)) ∙ front_at (times v left) (run_of (v + 1) (positions - 1 - v)) (place - v) (omega (arith, n, m)) ∙ times_at v left (place - v) m)

  past_all : v ≤ place → left ≤ place - v → slice_get (takers_of (Some v) positions items) place ≡ slice_get (run_of (v + 1) (positions - 1 - v)) (place - v - left)
  past_all l m =
      let n : length (times v left) ≡ left = times_length v left in
      past (place - v) (omega (arith, l)) ∙ behind_at (times v left) (run_of (v + 1) (positions - 1 - v)) (place - v) (place - v - left) (omega (arith, n, m))

  pub last_ones : v ≤ place → left ≤ place - v → place - v - left < positions - 1 - v
      → Some (v + 1 + (place - v - left)) ≡ slice_get (takers_of (Some v) positions items) place
  last_ones l m k = sym (past_all l m ∙ run_at (v + 1) (positions - 1 - v) (place - v - left) k)

  pub no_more : v ≤ place → left ≤ place - v → positions - 1 - v ≤ place - v - left → None ≡ slice_get (takers_of (Some v) positions items) place
  no_more l m k = sym (past_all l m ∙ run_behind (v + 1) (positions - 1 - v) (place - v - left) k)
