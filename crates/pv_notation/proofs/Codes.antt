-- A quoted text ends where its last quote stands, and no two are the same; nor are two runs of hexadecimal digits.
use Rattle.std.proofs.Common.{◌≡◌, ◌≢◌, ℕ, ◌+◌, ◌-◌, ◌*◌, ◌/◌, ◌%◌, nat_lt, ◌==◌, Bool, true, false, List, [], ◌∷◌, ◌++◌, get_or, drop, refl, sym, ap, ◌∙◌, ◌⊎◌, inl, inr, append_assoc, arith}
use Rattle.std.specs.Prelude.{codes, if◌then◌else◌}
use Rattle.std.specs.List.{flat_map}
use Rattle.std.proofs.lemmas.Bool.{false≢true}
use Rattle.std.proofs.lemmas.Bool.Decides.{Decides-eqb, nat_tests}
use Rattle.pv_notation.specs.Strings.{hex_digit, hex_byte, short_escape, escaped}

abbrev pub first : List ℕ → ℕ
first [] = 0
first (x ∷ xs) = x

pub same_first : {X : Type 0} (x y : X) (xs ys : List X) → x ∷ xs ≡ y ∷ ys → x ≡ y
same_first x y xs ys e = ap (head_or x) e
  where
    head_or : {X : Type 0} → X → List X → X
    head_or d [] = d
    head_or d (z ∷ zs) = z

pub same_rest : {X : Type 0} (x y : X) (xs ys : List X) → x ∷ xs ≡ y ∷ ys → xs ≡ ys
same_rest x y xs ys e = ap tail e
  where
    tail : {X : Type 0} → List X → List X
    tail [] = []
    tail (z ∷ zs) = zs

pub same_cons : {X : Type 0} (x y : X) (xs ys : List X) → x ≡ y → xs ≡ ys → x ∷ xs ≡ y ∷ ys
same_cons x y xs ys e f = ap (λ z. z ∷ xs) e ∙ ap (λ zs. y ∷ zs) f

-- a code of bytes, with what reads one byte of it; no code begins with a quote
module _ (f : ℕ → List ℕ) (read : List ℕ → ℕ × List ℕ) (reads : (b : ℕ) (r : List ℕ) → read (f b ++ r) ≡ (b, r)) (starts : (b : ℕ) (r : List ℕ) → first (f b ++ r) ≢ 34) where
  code_same : (xs ys r s : List ℕ) → flat_map f xs ++ 34 ∷ r ≡ flat_map f ys ++ 34 ∷ s → (xs ≡ ys) × (r ≡ s)
  code_same [] [] r s e = (refl, same_rest 34 34 r s e)
  code_same [] (b ∷ ys) r s e = absurd (starts b (flat_map f ys ++ 34 ∷ s) (sym (ap first (e ∙ append_assoc (f b) (flat_map f ys) (34 ∷ s)))))
  code_same (a ∷ xs) [] r s e = absurd (starts a (flat_map f xs ++ 34 ∷ r) (sym (ap first (sym e ∙ append_assoc (f a) (flat_map f xs) (34 ∷ r)))))
  code_same (a ∷ xs) (b ∷ ys) r s e =
      let t : f a ++ (flat_map f xs ++ 34 ∷ r) ≡ f b ++ (flat_map f ys ++ 34 ∷ s) =
      sym (append_assoc (f a) (flat_map f xs) (34 ∷ r)) ∙ e ∙ append_assoc (f b) (flat_map f ys) (34 ∷ s) in
      let p : (a, flat_map f xs ++ 34 ∷ r) ≡ (b, flat_map f ys ++ 34 ∷ s) = sym (reads a (flat_map f xs ++ 34 ∷ r)) ∙ ap read t ∙ reads b (flat_map f ys ++ 34 ∷ s) in
      let q = code_same xs ys r s (ap (λ (x : ℕ × List ℕ). x.1) p) in
      (same_cons a b xs ys (ap (λ (x : ℕ × List ℕ). x.0) p) q.0, q.1)

abbrev digit_of : ℕ → ℕ
digit_of h = if nat_lt h 58 then h - 48 else h - 87

digit_of-hex : (d : ℕ) → digit_of (hex_digit d) ≡ d
digit_of-hex d = grind (arith, nat_tests)

hex_starts : (d : ℕ) → hex_digit d ≢ 34
hex_starts d = grind (arith, nat_tests)

abbrev read_hex : List ℕ → ℕ × List ℕ
read_hex bs = (digit_of (get_or bs 0 0) * 16 + digit_of (get_or bs 1 0), drop 2 bs)

two_digits : (b : ℕ) (r : List ℕ) → read_hex (hex_byte b ++ r) ≡ (b, r)
two_digits b r =
    let e : digit_of (hex_digit (b / 16)) * 16 + digit_of (hex_digit (b % 16)) ≡ b = omega (arith, digit_of-hex (b / 16), digit_of-hex (b % 16)) in
    ap (λ x. (x, r)) e

pub hex_same : (xs ys r s : List ℕ) → flat_map hex_byte xs ++ 34 ∷ r ≡ flat_map hex_byte ys ++ 34 ∷ s → (xs ≡ ys) × (r ≡ s)
hex_same = code_same hex_byte read_hex two_digits (λ b r. hex_starts (b / 16))

-- what the letter behind a backslash stands for
abbrev named_by : ℕ → ℕ
named_by k = if k == 98 then 8 else (if k == 102 then 12 else (if k == 110 then 10 else (if k == 114 then 13 else (if k == 116 then 9 else k))))

abbrev read_escape : List ℕ → ℕ × List ℕ
read_escape [] = (0, [])
read_escape (k ∷ bs) = if k == 117 then read_hex (drop 2 bs) else (named_by k, bs)

abbrev read_escaped : List ℕ → ℕ × List ℕ
read_escaped [] = (0, [])
read_escaped (b ∷ bs) = if b == 92 then read_escape bs else (b, bs)

by_test : (P : ℕ → Type 0) (c : Bool) (x y : ℕ) → (c ≡ true → P x) → P y → P (if c then x else y)
by_test P true x y p q = p refl
by_test P false x y p q = q

abbrev Names : ℕ → ℕ → Type 0
Names b k = (k ≡ 0) ⊎ (((k == 117) ≡ false) × (named_by k ≡ b))

short_names : (b : ℕ) → Names b (short_escape b)
unfolding short_escape
short_names b =
    let at = λ (k : ℕ). (Decides-eqb b k).0 in
    by_test (Names b) (b == 34) 34 _ (λ t. inr (refl, sym (at 34 t))) (by_test (Names b) (b == 92) 92 _ (λ t. inr (refl, sym (at 92 t)))
    (by_test (Names b) (b == 8) 98 _ (λ t. inr (refl, sym (at 8 t))) (by_test (Names b) (b == 12) 102 _ (λ t. inr (refl, sym (at 12 t)))
    (by_test (Names b) (b == 10) 110 _ (λ t. inr (refl, sym (at 10 t))) (by_test (Names b) (b == 13) 114 _ (λ t. inr (refl, sym (at 13 t)))
    (by_test (Names b) (b == 9) 116 0 (λ t. inr (refl, sym (at 9 t))) (inl refl)))))))

named_apart : (b k : ℕ) (r : List ℕ) → Names b k → (k == 0) ≡ false → read_escape (k ∷ r) ≡ (b, r)
named_apart b k r (inl e) n = absurd (false≢true (sym n ∙ ap (λ x. x == 0) e))
named_apart b k r (inr h) n = ap (λ (c : Bool). if c then read_hex (drop 2 r) else (named_by k, r)) h.0 ∙ ap (λ x. (x, r)) h.1

plain_other : (b k : ℕ) → (short_escape b == 0) ≡ true → (short_escape k == 0) ≡ false → b ≢ k
plain_other b k h n e = false≢true (sym n ∙ ap (λ x. short_escape x == 0) (sym e) ∙ h)

not_equal : (b k : ℕ) → b ≢ k → (b == k) ≡ false
not_equal b k n = grind (arith, nat_tests)

plain_read : (b : ℕ) (r : List ℕ) → (short_escape b == 0) ≡ true → read_escaped (b ∷ r) ≡ (b, r)
unfolding short_escape
plain_read b r h = ap (λ (c : Bool). if c then read_escape r else (b, r)) (not_equal b 92 (plain_other b 92 h refl))

by_if : (P : List ℕ → Type 0) (c : Bool) (x y : List ℕ) → (c ≡ true → P x) → (c ≡ false → P y) → P (if c then x else y)
by_if P true x y p q = p refl
by_if P false x y p q = q refl

escaped_cases : (P : List ℕ → Type 0) (b : ℕ) → P (codes "\\u00" ++ hex_byte b) → ((short_escape b == 0) ≡ true → P (b ∷ [])) → ((short_escape b == 0) ≡ false → P (92 ∷ short_escape b ∷ [])) → P (escaped b)
unfolding escaped
escaped_cases P b p q s =
    by_if P (short_escape b == 0) (if nat_lt b 32 then codes "\\u00" ++ hex_byte b else b ∷ []) (92 ∷ short_escape b ∷ [])
    (λ t. by_if P (nat_lt b 32) (codes "\\u00" ++ hex_byte b) (b ∷ []) (λ _. p) (λ _. q t)) s

escaped_read : (b : ℕ) (r : List ℕ) → read_escaped (escaped b ++ r) ≡ (b, r)
escaped_read b r =
    escaped_cases (λ t. read_escaped (t ++ r) ≡ (b, r)) b (two_digits b r) (plain_read b r) (named_apart b (short_escape b) r (short_names b))

plain_start : (b : ℕ) → (short_escape b == 0) ≡ true → b ≢ 34
unfolding short_escape
plain_start b h = plain_other b 34 h refl

escaped_start : (b : ℕ) (r : List ℕ) → first (escaped b ++ r) ≢ 34
escaped_start b r = escaped_cases (λ t. first (t ++ r) ≢ 34) b (omega arith) (plain_start b) (λ _. omega arith)

pub text_same : (xs ys r s : List ℕ) → flat_map escaped xs ++ 34 ∷ r ≡ flat_map escaped ys ++ 34 ∷ s → (xs ≡ ys) × (r ≡ s)
text_same = code_same escaped read_escaped escaped_read escaped_start
