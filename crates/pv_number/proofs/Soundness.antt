-- What is scanned is a number of the grammar.
use Rattle.std.proofs.Common.{◌≡◌, ℕ, zero, suc, ◌+◌, ◌<◌, ◌≤◌, Bool, true, false, cond, List, [], ◌∷◌, ◌++◌, length, take, drop, Ok, Err, refl, sym, ap, ◌∙◌, subst, inl, inr, add-one, append_assoc, arith, length-drop, length-append}
use Rattle.std.proofs.Math.Seq.{take-add, take-length, take-append-add, drop-append_seam}
use Rattle.std.proofs.lemmas.List.{take-append-drop, length-take-le}
use Rattle.std.proofs.lemmas.Bool.{eqb-true, eqb-false, false≢true}
use Rattle.std.specs.Prelude.{Result, ◌⊎◌, ◌==◌, ◌||◌, ◌≢◌, ◌↔◌, IsTrue}
use Rattle.pv_number.specs.Scanning.{◌>>=◌, is_digit, digits, begins, some_digits, minus_len, sign_len, whole_len, fraction_len, exponent_len, number_len, reaches, is_number}
use Rattle.pv_number.specs.Grammar.{AllDigits, SomeDigits, IsMinus, IsSign, IsIntegerPart, IsFraction, IsExponent, IsNumber}
use Rattle.pv_number.proofs.Completeness.{is_number_complete}

bind_ok : {A B : Type 0} (r : Result A ℕ) (f : A → Result B ℕ) (y : B) → (r >>= f) ≡ Ok y → (x : A) × (r ≡ Ok x) × (f x ≡ Ok y)
bind_ok (Ok x) f y e = (x, refl, e)
bind_ok (Err n) f y e = cc

ok_same : {A : Type 0} (x y : A) → (let a : Result A ℕ = Ok x in a) ≡ Ok y → x ≡ y
ok_same x y e = cc

not_ok : {A P : Type 0} (n : ℕ) (y : A) → (let a : Result A ℕ = Err n in a) ≡ Ok y → P
not_ok n y e = cc

chosen : {A : Type 0} (b : Bool) (x y z : A) → cond b x y ≡ z → ((b ≡ true) × (x ≡ z)) ⊎ ((b ≡ false) × (y ≡ z))
chosen true x y z e = inl (refl, e)
chosen false x y z e = inr (refl, e)

either : (x y : Bool) → (x || y) ≡ true → (x ≡ true) ⊎ (y ≡ true)
either true y e = inl refl
either false y e = inr e

begins_is : (w : ℕ) (bs : List ℕ) → begins w bs ≡ true → (rest : List ℕ) × (bs ≡ w ∷ rest)
begins_is w [] e = absurd (false≢true e)
begins_is w (b ∷ bs) e = (bs, ap (λ c. c ∷ bs) (eqb-true b w e))

digits_front : (bs : List ℕ) → AllDigits (take (digits bs) bs)
unfolding digits
digits_front [] = tt
digits_front (b ∷ bs) = by (is_digit b) refl (digits_front bs)
  where
    by : (x : Bool) → is_digit b ≡ x → AllDigits (take (digits bs) bs) → AllDigits (take (cond x (digits bs + 1) 0) (b ∷ bs))
    by true e more = rw (add-one (digits bs)) (e, more)
    by false e more = tt

digits_within : (bs : List ℕ) → digits bs ≤ length bs
unfolding digits
digits_within [] = omega arith
digits_within (b ∷ bs) = by (is_digit b) (digits_within bs)
  where
    by : (x : Bool) → digits bs ≤ length bs → cond x (digits bs + 1) 0 ≤ suc (length bs)
    by true more = omega arith
    by false more = omega arith

length_front : (bs : List ℕ) (n : ℕ) → n ≤ length bs → length (take n bs) ≡ n
length_front bs n h = omega (arith, length-take-le n bs h)

-- digits behind a front
some_sound : (front bs : List ℕ) (n : ℕ) → some_digits (length front) (front ++ bs) ≡ Ok n → (ds : List ℕ) × SomeDigits ds × (take n (front ++ bs) ≡ front ++ ds) × (n ≤ length (front ++ bs))
some_sound front bs n e = elim (chosen (digits (drop (length front) (front ++ bs)) == 0) (Err _) (Ok _) (Ok n) e) [
  | inl h ↦ not_ok _ _ h.1
  | inr h ↦ (
      let d : drop (length front) (front ++ bs) ≡ bs = drop-append_seam front bs in
      let k = digits bs in
      let some : digits bs ≢ 0 = eqb-false (digits bs) 0 (ap (λ t. digits t == 0) (sym d) ∙ h.0) in
      let within : digits bs ≤ length bs = digits_within bs in
      let size : length (take (digits bs) bs) ≡ digits bs = length_front bs (digits bs) within in
      let is : digits bs + length front ≡ n = ap (λ t. digits t + length front) (sym d) ∙ ok_same _ _ h.1 in
      let at : length front + digits bs ≡ n = omega arith in
      (take (digits bs) bs, (digits_front bs, omega arith), ap (λ m. take m (front ++ bs)) (sym at) ∙ take-append-add front bs (digits bs), omega (arith, length-append front bs)))
]

minus_sound : (bs : List ℕ) → IsMinus (take (minus_len bs) bs) × (minus_len bs ≤ length bs)
unfolding minus_len
minus_sound bs = by (begins 45 bs) refl
  where
    by : (x : Bool) → begins 45 bs ≡ x → IsMinus (take (cond x 1 0) bs) × (cond x 1 0 ≤ length bs)
    by true e = let (rest, is) = begins_is 45 bs e in rw is (inr refl, omega arith)
    by false e = (inl refl, omega arith)

sign_sound : (bs : List ℕ) → IsSign (take (sign_len bs) bs) × (sign_len bs ≤ length bs)
unfolding sign_len
sign_sound bs = by (begins 45 bs || begins 43 bs) refl
  where
    by : (x : Bool) → (begins 45 bs || begins 43 bs) ≡ x → IsSign (take (cond x 1 0) bs) × (cond x 1 0 ≤ length bs)
    by true e = elim (either (begins 45 bs) (begins 43 bs) e) [
      | inl h ↦ (let (rest, is) = begins_is 45 bs h in rw is (inr (inl refl), omega arith))
      | inr h ↦ (let (rest, is) = begins_is 43 bs h in rw is (inr (inr refl), omega arith))
    ]
    by false e = (inl refl, omega arith)

no_zero : (bs : List ℕ) (n : ℕ) → begins 48 bs ≡ false → SomeDigits (take n bs) → IsIntegerPart (take n bs)
no_zero bs zero e s = absurd (let l : 0 < 0 = s.1 in omega arith)
no_zero [] (suc n) e s = absurd (let l : 0 < 0 = s.1 in omega arith)
no_zero (b ∷ bs) (suc n) e s = inr (b, take n bs, refl, eqb-false b 48 e, (s.0).0, (s.0).1)

whole_sound : (bs : List ℕ) (n : ℕ) → whole_len bs ≡ Ok n → IsIntegerPart (take n bs) × (n ≤ length bs)
unfolding whole_len
whole_sound bs n e = elim (chosen (begins 48 bs) (Ok 1) (some_digits 0 bs) (Ok n) e) [
  | inl h ↦ (let (rest, is) = begins_is 48 bs h.0 in rw (is, ← ok_same 1 n h.1) (inl refl, omega arith))
  | inr h ↦ (let (ds, some, is, within) = some_sound [] bs n h.1 in (no_zero bs n h.0 (subst (λ t. SomeDigits t) (sym is) some), within))
]

fraction_sound : (bs : List ℕ) (n : ℕ) → fraction_len bs ≡ Ok n → IsFraction (take n bs) × (n ≤ length bs)
unfolding fraction_len
fraction_sound bs n e = elim (chosen (begins 46 bs) (some_digits 1 bs) (Ok 0) (Ok n) e) [
  | inl h ↦ (let (rest, is) = begins_is 46 bs h.0 in
      let (ds, some, same, within) = some_sound (46 ∷ []) rest n (ap (λ t. some_digits 1 t) (sym is) ∙ h.1) in
      rw is (inr (ds, same, some), within))
  | inr h ↦ rw (← ok_same 0 n h.1) (inl refl, omega arith)
]

exponent_by : (c : ℕ) (bs : List ℕ) (n : ℕ) → (c ≡ 101) ⊎ (c ≡ 69) → some_digits (sign_len bs + 1) (c ∷ bs) ≡ Ok n → IsExponent (take n (c ∷ bs)) × (n ≤ length (c ∷ bs))
exponent_by c bs n letter e =
    let g = sign_len bs in
    let sign = sign_sound bs in
    let size : length (c ∷ take g bs) ≡ g + 1 = omega (arith, length_front bs g sign.1) in
    let whole : c ∷ take g bs ++ drop g bs ≡ c ∷ bs = ap (λ t. c ∷ t) (take-append-drop g bs) in
    let (ds, some, same, within) = some_sound (c ∷ take g bs) (drop g bs) n (ap (λ k. some_digits k (c ∷ take g bs ++ drop g bs)) size ∙ (ap (λ t. some_digits (g + 1) t) whole ∙ e)) in
    (inr (c, take g bs, ds, ap (λ t. take n t) (sym whole) ∙ same, letter, sign.0, some), subst (λ t. n ≤ length t) whole within)

exponent_sound : (bs : List ℕ) (n : ℕ) → exponent_len bs ≡ Ok n → IsExponent (take n bs) × (n ≤ length bs)
unfolding exponent_len
exponent_sound bs n e = elim (chosen (begins 101 bs || begins 69 bs) (some_digits (sign_len (drop 1 bs) + 1) bs) (Ok 0) (Ok n) e) [
  | inl h ↦ elim (either (begins 101 bs) (begins 69 bs) h.0) [
    | inl b ↦ (let (rest, is) = begins_is 101 bs b in rw is (exponent_by 101 rest n (inl refl) (ap (λ t. some_digits (sign_len (drop 1 t) + 1) t) (sym is) ∙ h.1)))
    | inr b ↦ (let (rest, is) = begins_is 69 bs b in rw is (exponent_by 69 rest n (inr refl) (ap (λ t. some_digits (sign_len (drop 1 t) + 1) t) (sym is) ∙ h.1)))
  ]
  | inr h ↦ rw (← ok_same 0 n h.1) (inl refl, omega arith)
]

take_four : (bs : List ℕ) (m w f x : ℕ) → take (m + w + f + x) bs ≡ take m bs ++ (take w (drop m bs) ++ (take f (drop (m + w) bs) ++ take x (drop (m + w + f) bs)))
take_four bs m w f x = rw (take-add (m + w + f) x bs, take-add (m + w) f bs, take-add m w bs, append_assoc, append_assoc) refl

pub number_sound : (bs : List ℕ) (n : ℕ) → number_len bs ≡ Ok n → IsNumber (take n bs) × (n ≤ length bs)
unfolding number_len
number_sound bs n e =
    let m = minus_len bs in
    let (w, is_w, after_w) = bind_ok (whole_len (drop m bs)) (λ w. fraction_len (drop (m + w) bs) >>= λ f. exponent_len (drop (m + w + f) bs) >>= λ x. Ok (m + w + f + x)) n e in
    let (f, is_f, after_f) = bind_ok (fraction_len (drop (m + w) bs)) (λ f. exponent_len (drop (m + w + f) bs) >>= λ x. Ok (m + w + f + x)) n after_w in
    let (x, is_x, after_x) = bind_ok (exponent_len (drop (m + w + f) bs)) (λ x. Ok (m + w + f + x)) n after_f in
    let minus = minus_sound bs in
    let whole = whole_sound (drop m bs) w is_w in
    let fraction = fraction_sound (drop (m + w) bs) f is_f in
    let exponent = exponent_sound (drop (m + w + f) bs) x is_x in
    let all : m + w + f + x ≡ n = ok_same _ _ after_x in (
      record {
        minus = take m bs;
        whole = take w (drop m bs);
        fraction = take f (drop (m + w) bs);
        exponent = take x (drop (m + w + f) bs);
        parts = subst (λ k. take k bs ≡ take m bs ++ (take w (drop m bs) ++ (take f (drop (m + w) bs) ++ take x (drop (m + w + f) bs)))) all (take_four bs m w f x);
        is_minus = minus.0;
        is_whole = whole.0;
        is_fraction = fraction.0;
        is_exponent = exponent.0;
      },
      omega (arith, length-drop m bs, length-drop (m + w) bs, length-drop (m + w + f) bs),
    )

pub is_number_sound : (bs : List ℕ) → IsTrue (is_number bs) → IsNumber bs
unfolding is_number
is_number_sound bs e = by (number_len bs) refl e
  where
    by : (r : Result ℕ ℕ) → number_len bs ≡ r → reaches (length bs) r ≡ true → IsNumber bs
    by (Ok n) is all = let same : n ≡ length bs = eqb-true n (length bs) all in subst (λ t. IsNumber t) (ap (λ k. take k bs) same ∙ take-length bs) (number_sound bs n is).0
    by (Err k) is all = absurd (false≢true all)

pub front_sound : (bs : List ℕ) (n : ℕ) → number_len bs ≡ Ok n → IsTrue (is_number (take n bs))
front_sound bs n e = is_number_complete (take n bs) (number_sound bs n e).0

pub number_tells : (bs : List ℕ) → (IsTrue (is_number bs) ↔ IsNumber bs)
number_tells bs = (is_number_sound bs, is_number_complete bs)

pub number_front : (bs : List ℕ) (n : ℕ) → Ok n ≡ number_len bs → IsNumber (take n bs)
number_front bs n e = (number_sound bs n (sym e)).0
