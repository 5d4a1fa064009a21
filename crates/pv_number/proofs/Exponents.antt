-- The difference of two exponents, stopped on both sides.
use Rattle.std.proofs.Common.{◌≡◌, ℕ, ◌+◌, ◌-◌, ◌*◌, ◌<◌, ◌≤◌, Bool, true, false, List, length, ℤ, pos, negsuc, ◌+ℤ◌, ◌-ℤ◌, ◌*ℤ◌, ◌≤ℤ◌, refl, ap, ◌∙◌, arith}
use Rattle.std.proofs.lemmas.Int.{ints, clamps}
use Rattle.pv_number.specs.ExactNumber.{signed, natural}
use Rattle.pv_number.specs.Decimals.{capped, run}
use Rattle.pv_number.proofs.Runs.{run_none, natural_run}

pub capped_more : (x d : ℤ) → negsuc 18 ≤ℤ d → d ≤ℤ pos 18 → capped (capped x *ℤ pos 10 +ℤ d) ≡ capped (x *ℤ pos 10 +ℤ d)
unfolding capped
capped_more x d low high = omega (arith, ints, clamps)

signed_more : (minus : Bool) (n m d : ℕ) → m ≡ n * 10 + d → signed minus m ≡ signed minus n *ℤ pos 10 +ℤ signed minus d
signed_more true n m d e = omega (arith, ints)
signed_more false n m d e = omega (arith, ints)

signed_low : (minus : Bool) (d : ℕ) → d ≤ 9 → negsuc 8 ≤ℤ signed minus d
signed_low true d h = omega (arith, ints)
signed_low false d h = omega (arith, ints)

signed_high : (minus : Bool) (d : ℕ) → d ≤ 9 → signed minus d ≤ℤ pos 9
signed_high true d h = omega (arith, ints)
signed_high false d h = omega (arith, ints)

pub difference_more : (c : ℤ) (p q : Bool) (m n a m' n' b : ℕ) → m ≡ n * 10 + a → m' ≡ n' * 10 + b → a ≤ 9 → b ≤ 9 → c ≡ capped (signed p n -ℤ signed q n') → capped (c *ℤ pos 10 +ℤ signed p a -ℤ signed q b) ≡ capped (signed p m -ℤ signed q m')
difference_more c p q m n a m' n' b e f la lb is =
    let up = signed_more p n m a e in
    let down = signed_more q n' m' b f in
    let h1 = signed_low p a la in
    let h2 = signed_high p a la in
    let h3 = signed_low q b lb in
    let h4 = signed_high q b lb in
    let x : ℤ = signed p n -ℤ signed q n' in
    let d : ℤ = signed p a -ℤ signed q b in
    let left : c *ℤ pos 10 +ℤ signed p a -ℤ signed q b ≡ capped x *ℤ pos 10 +ℤ d = rw is (omega (arith, ints)) in
    let right : x *ℤ pos 10 +ℤ d ≡ signed p m -ℤ signed q m' = omega (arith, ints) in
    ap capped left ∙ capped_more x d (omega (arith, ints)) (omega (arith, ints)) ∙ ap capped right

pub difference_none : (p q : Bool) (xs ys : List ℕ) (rank : ℕ) → length xs ≤ rank → length ys ≤ rank → pos 0 ≡ capped (signed p (run xs 0 (length xs - rank)) -ℤ signed q (run ys 0 (length ys - rank)))
unfolding capped
difference_none p q xs ys rank a b =
    let x : length xs - rank ≡ 0 = omega arith in
    let y : length ys - rank ≡ 0 = omega arith in
    rw (x, y, run_none xs 0, run_none ys 0) (by p q)
  where
    by : (p q : Bool) → pos 0 ≡ capped (signed p 0 -ℤ signed q 0)
    by true true = refl
    by true false = refl
    by false true = refl
    by false false = refl

pub difference_all : (c : ℤ) (p q : Bool) (xs ys : List ℕ) (rank : ℕ) → rank ≡ 0 → c ≡ capped (signed p (run xs 0 (length xs - rank)) -ℤ signed q (run ys 0 (length ys - rank))) → c ≡ capped (signed p (natural xs) -ℤ signed q (natural ys))
difference_all c p q xs ys rank none e =
    let x : length xs - rank ≡ length xs = omega arith in
    let y : length ys - rank ≡ length ys = omega arith in
    rw (natural_run xs, natural_run ys, ← x, ← y) e

pub difference_step : (c r : ℤ) (p q : Bool) (xs ys : List ℕ) (rank a b : ℕ) → 0 < rank → run xs 0 (length xs - (rank - 1)) ≡ run xs 0 (length xs - (rank - 1 + 1)) * 10 + a → run ys 0 (length ys - (rank - 1)) ≡ run ys 0 (length ys - (rank - 1 + 1)) * 10 + b → a ≤ 9 → b ≤ 9 → c ≡ capped (signed p (run xs 0 (length xs - rank)) -ℤ signed q (run ys 0 (length ys - rank))) → r ≡ capped (c *ℤ pos 10 +ℤ signed p a -ℤ signed q b) → r ≡ capped (signed p (run xs 0 (length xs - (rank - 1))) -ℤ signed q (run ys 0 (length ys - (rank - 1))))
difference_step c r p q xs ys rank a b some e f la lb is new =
    let back : rank - 1 + 1 ≡ rank = omega arith in
    new ∙ difference_more c p q _ _ a _ _ b (rw back at e) (rw back at f) la lb is

pub stopped : (r x y : ℤ) → r ≡ capped x → x ≡ y → r ≡ capped y
stopped r x y e f = e ∙ ap capped f

pub capped_alone : (c x y : ℤ) → y ≡ pos 0 → c ≡ capped (x -ℤ y) → c ≡ capped x
capped_alone c x y none e = stopped c (x -ℤ y) x e (omega (arith, ints))
