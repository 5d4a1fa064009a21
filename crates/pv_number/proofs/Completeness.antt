-- Each number of the grammar is scanned to its end.
use Rattle.std.proofs.Common.{◌≡◌, ℕ, suc, ◌+◌, ◌<◌, ◌≤◌, Bool, true, false, List, [], ◌∷◌, ◌++◌, length, drop, Ok, refl, sym, ap, ◌∙◌, inl, inr, append_assoc, append-nil, add-one, length-append, arith}
use Rattle.std.proofs.lemmas.Bool.{leb-true, ne_eqb, eq-eqb, false≢true}
use Rattle.std.specs.Prelude.{◌⊎◌, ◌==◌, ◌||◌, ◌&&◌, nat_le, IsTrue}
use Rattle.pv_number.specs.Scanning.{is_digit, digits, begins, some_digits, minus_len, sign_len, whole_len, fraction_len, exponent_len, number_len, is_number}
use Rattle.pv_number.specs.Grammar.{AllDigits, SomeDigits, IsMinus, IsSign, IsIntegerPart, IsFraction, IsExponent, IsNumber, Stops}

-- no digit comes first
abbrev NoDigit : List ℕ → Type 0
NoDigit [] = Unit {0}
NoDigit (b ∷ bs) = is_digit b ≡ false

drop_front : (xs ys : List ℕ) → drop (length xs) (xs ++ ys) ≡ ys
drop_front [] ys = refl
drop_front (x ∷ xs) ys = drop_front xs ys

no_digits : (bs : List ℕ) → NoDigit bs → digits bs ≡ 0
unfolding digits
no_digits [] n = refl
no_digits (b ∷ bs) n = rw n refl

all_digits : (ds rest : List ℕ) → AllDigits ds → NoDigit rest → digits (ds ++ rest) ≡ length ds
unfolding digits
all_digits [] rest a n = no_digits rest n
all_digits (d ∷ ds) rest a n = rw (a.0, all_digits ds rest a.1 n) (add-one (length ds))

-- digits behind a front
some_ok : (front ds rest : List ℕ) (n : ℕ) → n ≡ length front → SomeDigits ds → NoDigit rest → some_digits n (front ++ (ds ++ rest)) ≡ Ok (length ds + length front)
some_ok front ds rest n e s d = rw (e, drop_front front (ds ++ rest), all_digits ds rest s.0 d, ne_eqb (length ds) 0 (omega arith)) refl
  where
    l : 0 < length ds
    l = s.1

or_left : (x y : Bool) → (x || y) ≡ false → x ≡ false
or_left true y e = e
or_left false y e = refl

or_right : (x y : Bool) → (x || y) ≡ false → y ≡ false
or_right true y e = absurd (false≢true (sym e))
or_right false y e = e

digit_bounds : (b : ℕ) → IsTrue (is_digit b) → 48 ≤ b
digit_bounds b d = by (nat_le 48 b) refl d
  where
    by : (x : Bool) → nat_le 48 b ≡ x → (x && nat_le b 57) ≡ true → 48 ≤ b
    by true e f = leb-true 48 b e
    by false e f = absurd (false≢true f)

-- what comes behind the whole digits, behind the fraction
abbrev Behind : List ℕ → Type 0
Behind bs = NoDigit bs × (begins 46 bs ≡ false)

stops_behind : (rest : List ℕ) → Stops rest → Behind rest
stops_behind [] s = (tt, refl)
stops_behind (b ∷ bs) s = (or_left (is_digit b) _ s, or_left (b == 46) _ (or_right (is_digit b) _ s))

no_exponent : (rest : List ℕ) → Stops rest → exponent_len rest ≡ Ok 0
unfolding exponent_len
no_exponent [] s = refl
no_exponent (b ∷ bs) s = rw (or_right (b == 46) _ (or_right (is_digit b) _ s)) refl

exponent_behind : (e rest : List ℕ) → IsExponent e → Stops rest → Behind (e ++ rest)
exponent_behind e rest (inl n) s = rw n (stops_behind rest s)
exponent_behind e rest (inr (c, g, ds, w, inl l, i, d)) s = rw (w, l) (refl, refl)
exponent_behind e rest (inr (c, g, ds, w, inr l, i, d)) s = rw (w, l) (refl, refl)

fraction_behind : (f rest : List ℕ) → IsFraction f → Behind rest → NoDigit (f ++ rest)
fraction_behind f rest (inl n) b = rw n b.0
fraction_behind f rest (inr (ds, w, s)) b = rw w refl

minus_ok : (m rest : List ℕ) → IsMinus m → begins 45 rest ≡ false → minus_len (m ++ rest) ≡ length m
unfolding minus_len
minus_ok m rest (inl n) b = rw (n, b) refl
minus_ok m rest (inr n) b = rw n refl

no_sign : (ds rest : List ℕ) → SomeDigits ds → sign_len (ds ++ rest) ≡ 0
unfolding sign_len
no_sign [] rest s = absurd (let l : 0 < 0 = s.1 in omega arith)
no_sign (d ∷ ds) rest s = let l = digit_bounds d (s.0).0 in rw (ne_eqb d 45 (omega arith), ne_eqb d 43 (omega arith)) refl

sign_ok : (g ds rest : List ℕ) → IsSign g → SomeDigits ds → sign_len (g ++ (ds ++ rest)) ≡ length g
unfolding sign_len
sign_ok g ds rest (inl n) s = rw n (no_sign ds rest s)
sign_ok g ds rest (inr (inl n)) s = rw n refl
sign_ok g ds rest (inr (inr n)) s = rw n refl

whole_ok : (w rest : List ℕ) → IsIntegerPart w → NoDigit rest → whole_len (w ++ rest) ≡ Ok (length w)
unfolding whole_len
whole_ok w rest (inl n) d = rw n refl
whole_ok w rest (inr (b, bs, e, n, i, a)) d =
    rw (e, ne_eqb b 48 n) (some_ok [] (b ∷ bs) rest 0 refl ((i, a), omega arith) d ∙ (let z : suc (length bs) + 0 ≡ suc (length bs) = omega arith in ap Ok z))

fraction_ok : (f rest : List ℕ) → IsFraction f → Behind rest → fraction_len (f ++ rest) ≡ Ok (length f)
unfolding fraction_len
fraction_ok f rest (inl n) b = rw (n, b.1) refl
fraction_ok f rest (inr (ds, w, s)) b = rw w (some_ok (46 ∷ []) ds rest 1 refl s b.0 ∙ ap Ok (add-one (length ds)))

exponent_ok : (e rest : List ℕ) → IsExponent e → Stops rest → exponent_len (e ++ rest) ≡ Ok (length e)
unfolding exponent_len
exponent_ok e rest (inl n) s = rw n (no_exponent rest s)
exponent_ok e rest (inr (c, g, ds, w, l, i, d)) s =
    rw (w, is_letter c l, append_assoc g ds rest, sign_ok g ds rest i d)
    (some_ok (c ∷ g) ds rest (length g + 1) (add-one (length g)) d (stops_behind rest s).0 ∙ ap Ok (omega (arith, length-append g ds)))
  where
    is_letter : (c : ℕ) → (c ≡ 101) ⊎ (c ≡ 69) → (c == 101 || c == 69) ≡ true
    is_letter c (inl h) = rw h refl
    is_letter c (inr h) = rw h refl

drop_at : (n : ℕ) (bs xs ys : List ℕ) → bs ≡ xs ++ ys → n ≡ length xs → drop n bs ≡ ys
drop_at n bs xs ys e f = rw (e, f) (drop_front xs ys)

whole_begins : (w rest : List ℕ) → IsIntegerPart w → begins 45 (w ++ rest) ≡ false
whole_begins w rest (inl n) = rw n refl
whole_begins w rest (inr (b, bs, e, n, i, a)) = let l = digit_bounds b i in rw e (ne_eqb b 45 (omega arith))

pub number_complete : (text rest : List ℕ) → IsNumber text → Stops rest → number_len (text ++ rest) ≡ Ok (length text)
unfolding number_len
number_complete text rest p s =
    let m = p.minus in
    let w = p.whole in
    let f = p.fraction in
    let e = p.exponent in
    let bs = text ++ rest in
    let three : List ℕ = e ++ rest in
    let two : List ℕ = f ++ three in
    let one : List ℕ = w ++ two in
    let a1 : bs ≡ m ++ one = ap (λ t. t ++ rest) p.parts ∙ append_assoc m (w ++ (f ++ e)) rest ∙ ap (λ t. m ++ t) (append_assoc w (f ++ e) rest ∙ ap (λ t. w ++ t) (append_assoc f e rest)) in
    let a2 : bs ≡ (m ++ w) ++ two = a1 ∙ sym (append_assoc m w two) in
    let a3 : bs ≡ ((m ++ w) ++ f) ++ three = a2 ∙ sym (append_assoc (m ++ w) f three) in
    let l2 : length m + length w ≡ length (m ++ w) = sym (length-append m w) in
    let l3 : length m + length w + length f ≡ length ((m ++ w) ++ f) = omega (arith, length-append (m ++ w) f, length-append m w) in
    let l4 : length m + length w + length f + length e ≡ length text =
    omega (arith, ap length p.parts, length-append m (w ++ (f ++ e)), length-append w (f ++ e), length-append f e) in
    let behind : Behind three = exponent_behind e rest p.is_exponent s in
    rw (
      ap minus_len a1 ∙ minus_ok m one p.is_minus (whole_begins w two p.is_whole),
      drop_at (length m) bs m one a1 refl,
      whole_ok w two p.is_whole (fraction_behind f three p.is_fraction behind),
      drop_at (length m + length w) bs (m ++ w) two a2 l2,
      fraction_ok f three p.is_fraction behind,
      drop_at (length m + length w + length f) bs ((m ++ w) ++ f) three a3 l3,
      exponent_ok e rest p.is_exponent s,
    ) (ap Ok l4)

pub is_number_complete : (bs : List ℕ) → IsNumber bs → IsTrue (is_number bs)
unfolding is_number
is_number_complete bs p = rw (ap number_len (sym (append-nil bs)) ∙ number_complete bs [] p tt, eq-eqb (length bs) (length bs) refl) refl
