-- No text here contains a line feed.
use Rattle.std.proofs.Common.{◌≡◌, ◌≢◌, ℕ, suc, zero, ◌+◌, ◌/◌, ◌%◌, nat_lt, ◌==◌, Bool, true, false, List, [], ◌∷◌, ◌++◌, map, refl, sym, ap, ◌∙◌, pos, negsuc, ℤ, arith}
use Rattle.std.specs.Prelude.{codes, if◌then◌else◌}
use Rattle.std.specs.List.{AllByRecursion, flat_map}
use Rattle.std.specs.Fmt.{digit_glyph, digits_onto, digits, decimal, signed_decimal}
use Rattle.std.proofs.lemmas.Bool.{false≢true}
use Rattle.pv_notation.specs.Strings.{hex_digit, hex_byte, short_escape, escaped, quoted}
use Rattle.pv_notation.specs.Lists.{joined, list_text}

abbrev pub IsLine : List ℕ → Type 0
IsLine = AllByRecursion (λ b. b ≢ 10)

abbrev pub AreLines : List (List ℕ) → Type 0
AreLines = AllByRecursion IsLine

pub line_append : (xs ys : List ℕ) → IsLine xs → IsLine ys → IsLine (xs ++ ys)
line_append [] ys p q = q
line_append (x ∷ xs) ys p q = (p.0, line_append xs ys p.1 q)

pub line_flat_map : {X : Type 0} (f : X → List ℕ) → ((x : X) → IsLine (f x)) → (xs : List X) → IsLine (flat_map f xs)
line_flat_map f p [] = tt
line_flat_map f p (x ∷ xs) = line_append (f x) (flat_map f xs) (p x) (line_flat_map f p xs)

line_if : (c : Bool) (x y : List ℕ) → (c ≡ true → IsLine x) → (c ≡ false → IsLine y) → IsLine (if c then x else y)
line_if true x y p q = p refl
line_if false x y p q = q refl

other_if : (c : Bool) (x y : ℕ) → x ≢ 10 → y ≢ 10 → (if c then x else y) ≢ 10
other_if true x y p q = p
other_if false x y p q = q

hex_digit_other : (d : ℕ) → hex_digit d ≢ 10
hex_digit_other d = other_if (nat_lt d 10) (d + 48) (d + 87) (omega arith) (omega arith)

pub hex_byte_line : (b : ℕ) → IsLine (hex_byte b)
hex_byte_line b = (hex_digit_other (b / 16), (hex_digit_other (b % 16), tt))

short_escape_other : (b : ℕ) → short_escape b ≢ 10
unfolding short_escape
short_escape_other b =
    other_if (b == 34) 34 _ (omega arith) (other_if (b == 92) 92 _ (omega arith) (other_if (b == 8) 98 _ (omega arith) (other_if (b == 12) 102 _ (omega arith)
    (other_if (b == 10) 110 _ (omega arith) (other_if (b == 13) 114 _ (omega arith) (other_if (b == 9) 116 0 (omega arith) (omega arith)))))))

unescaped_other : (b : ℕ) → (short_escape b == 0) ≡ true → b ≢ 10
unfolding short_escape
unescaped_other b h e = false≢true (ap (λ x. short_escape x == 0) (sym e) ∙ h)

pub escaped_line : (b : ℕ) → IsLine (escaped b)
unfolding escaped
escaped_line b =
    line_if (short_escape b == 0) (if nat_lt b 32 then codes "\\u00" ++ hex_byte b else b ∷ []) (92 ∷ short_escape b ∷ [])
    (λ h. line_if (nat_lt b 32) (codes "\\u00" ++ hex_byte b) (b ∷ []) (λ _. (omega arith, (omega arith, (omega arith, (omega arith, hex_byte_line b))))) (λ _. (unescaped_other b h, tt)))
    (λ _. (omega arith, (short_escape_other b, tt)))

pub quoted_line : (bytes : List ℕ) → IsLine (quoted bytes)
quoted_line bytes = (omega arith, line_append (flat_map escaped bytes) (34 ∷ []) (line_flat_map escaped escaped_line bytes) (omega arith, tt))

glyph_other : (d : ℕ) → digit_glyph false d ≢ 10
glyph_other d = other_if (nat_lt d 10) (48 + d) (87 + d) (omega arith) (omega arith)

digits_onto_line : (k base n : ℕ) (acc : List ℕ) → IsLine acc → IsLine (digits_onto k base false n acc)
digits_onto_line zero base n acc p = p
digits_onto_line (suc k) base n acc p =
    let q : IsLine (digit_glyph false (n % base) ∷ acc) = (glyph_other (n % base), p) in
    line_if (n / base == 0) (digit_glyph false (n % base) ∷ acc) (digits_onto k base false (n / base) (digit_glyph false (n % base) ∷ acc)) (λ _. q)
    (λ _. digits_onto_line k base (n / base) (digit_glyph false (n % base) ∷ acc) q)

pub decimal_line : (n : ℕ) → IsLine (decimal n)
unfolding digits
decimal_line n = digits_onto_line 64 10 n [] tt

pub signed_decimal_line : (z : ℤ) → IsLine (signed_decimal z)
signed_decimal_line (pos n) = decimal_line n
signed_decimal_line (negsuc n) = (omega arith, decimal_line (suc n))

pub joined_line : (xs : List (List ℕ)) → AreLines xs → IsLine (joined xs)
joined_line [] p = tt
joined_line (x ∷ xs) p = line_append x (flat_map (λ y. 44 ∷ y) xs) p.0 (behind xs p.1)
  where
    behind : (ys : List (List ℕ)) → AreLines ys → IsLine (flat_map (λ y. 44 ∷ y) ys)
    behind [] q = tt
    behind (y ∷ ys) q = (omega arith, line_append y (flat_map (λ z. 44 ∷ z) ys) q.0 (behind ys q.1))

pub list_text_line : (xs : List (List ℕ)) → AreLines xs → IsLine (list_text xs)
list_text_line xs p = (omega arith, line_append (joined xs) (93 ∷ []) (joined_line xs p) (omega arith, tt))

pub lines_map : {X : Type 0} (f : X → List ℕ) → ((x : X) → IsLine (f x)) → (xs : List X) → AreLines (map f xs)
lines_map f p [] = tt
lines_map f p (x ∷ xs) = (p x, lines_map f p xs)
