-- The compact JSON of a tree is UTF-8 where its texts are.
use Rattle.std.proofs.Common.{◌≡◌, ℕ, ◌+◌, ◌/◌, ◌%◌, ◌<◌, ◌≤◌, ◌==◌, Bool, true, false, IsTrue, List, [], ◌∷◌, ◌++◌, map, refl, sym, ap, ◌∙◌, subst, ◌⊎◌, inl, inr, All, arith}
use Rattle.std.proofs.lemmas.Bool.{le-ltb, leb-true, cases_lt}
use Rattle.std.proofs.lemmas.Bool.Decides.{eqb_tells, Decides-ltb}
use Rattle.std.proofs.lemmas.Grind.{flat_map-append}
use Rattle.std.proofs.lemmas.List.Elements.{All-from_recursion, recursion_from_All}
use Rattle.std.proofs.lemmas.Str.{encode_ascii, IsUtf8-nil, IsUtf8-append, IsUtf8-encode, IsUtf8-from_ascii}
use Rattle.std.proofs.lemmas.Str.Ascii.{IsAscii-from_all}
use Rattle.std.specs.Char.{IsScalar, encode_utf8}
use Rattle.std.specs.List.{flat_map, AllByRecursion}
use Rattle.std.specs.Prelude.{◌&&◌, nat_lt, nat_le, IsUtf8, encode_utf8_all, if◌then◌else◌, codes}
use Rattle.std.specs.Str.{all_scalars}
use Rattle.pv_number.specs.Grammar.{IsNumber, AllDigits, IsMinus, IsSign, IsIntegerPart, IsFraction, IsExponent}
use Rattle.pv_number.specs.Scanning.{is_digit}
use Rattle.pv_tree.specs.Names.{Distinct}
use Rattle.pv_tree.specs.declared.Tree.{Tree, map-Tree}
use Rattle.pv_tree.specs.declared.Tree.TheVariants as tree
use Rattle.pv_tree.specs.declared.Tree.TheVariants.{rolls-Null, rolls-Bool, rolls-Num, rolls-Str, rolls-Array, rolls-Object}
use Rattle.pv_tree.specs.declared.Tree.TheOpen.{Tree-F}
use Rattle.pv_tree.specs.declared.Tree.TheViews.{roll-Tree}
use Rattle.pv_tree.specs.declared.Tree.TheFolds.{fold-roll-Tree}
use Rattle.pv_notation.specs.Compact.{compact, compact_step, compact_member, member_text}
use Rattle.pv_notation.specs.Lists.{joined}
use Rattle.pv_notation.specs.Strings.{hex_digit, hex_byte, short_escape, escaped, quoted}

-- ---- bytes of ASCII

abbrev AllAscii : List ℕ → Type 0
AllAscii = AllByRecursion (λ b. b < 128)

ascii_utf8 : (bs : List ℕ) → AllAscii bs → IsUtf8 bs
ascii_utf8 bs h = IsUtf8-from_ascii bs (IsAscii-from_all bs (All-from_recursion (λ b. b < 128) bs h))

ascii_append : (xs ys : List ℕ) → AllAscii xs → AllAscii ys → AllAscii (xs ++ ys)
ascii_append [] ys h k = k
ascii_append (x ∷ xs) ys h k = (h.0, ascii_append xs ys h.1 k)

-- ---- escapes

small_if : (c : Bool) (x y : ℕ) → x < 128 → y < 128 → (if c then x else y) < 128
small_if true x y h k = h
small_if false x y h k = k

hex_small : (d : ℕ) → d < 16 → hex_digit d < 128
hex_small d l = small_if (nat_lt d 10) (d + 48) (d + 87) (omega arith) (omega arith)

short_small : (b : ℕ) → short_escape b < 128
unfolding short_escape
short_small b =
    small_if (b == 34) 34 _ (omega arith) (small_if (b == 92) 92 _ (omega arith) (small_if (b == 8) 98 _ (omega arith) (small_if (b == 12) 102 _ (omega arith)
    (small_if (b == 10) 110 _ (omega arith) (small_if (b == 13) 114 _ (omega arith) (small_if (b == 9) 116 0 (omega arith) (omega arith)))))))

ascii_if : (c : Bool) (x y : List ℕ) → (c ≡ true → AllAscii x) → (c ≡ false → AllAscii y) → AllAscii (if c then x else y)
ascii_if true x y h k = h refl
ascii_if false x y h k = k refl

hex_ascii : (b : ℕ) → b < 32 → AllAscii (hex_byte b)
hex_ascii b l = (hex_small (b / 16) (omega arith), (hex_small (b % 16) (omega arith), tt))

escaped_ascii : (b : ℕ) → b < 128 → AllAscii (escaped b)
unfolding escaped
escaped_ascii b l =
    ascii_if (short_escape b == 0) (if nat_lt b 32 then codes "\\u00" ++ hex_byte b else b ∷ []) (92 ∷ short_escape b ∷ [])
    (λ h. ascii_if (nat_lt b 32) (codes "\\u00" ++ hex_byte b) (b ∷ [])
    (λ c. (omega arith, (omega arith, (omega arith, (omega arith, hex_ascii b ((Decides-ltb b 32).0 c)))))) (λ c. (l, tt)))
    (λ h. (omega arith, (short_small b, tt)))

-- ---- strings

not_same : (a b : ℕ) → b < a → (a == b) ≡ false
not_same a b l = elim (eqb_tells a b) [
  | inl h ↦ absurd (let e = h.1 in omega (arith, e, l))
  | inr h ↦ h.0
]

no_letter : (b : ℕ) → 128 ≤ b → short_escape b ≡ 0
unfolding short_escape
no_letter b l =
    rw (
      not_same b 34 (omega arith),
      not_same b 92 (omega arith),
      not_same b 8 (omega arith),
      not_same b 12 (omega arith),
      not_same b 10 (omega arith),
      not_same b 13 (omega arith),
      not_same b 9 (omega arith),
    ) refl

same_escaped : (b : ℕ) → 128 ≤ b → escaped b ≡ b ∷ []
unfolding escaped
same_escaped b l = rw (no_letter b l, le-ltb b 32 (omega arith)) refl

high_escaped : (bs : List ℕ) → AllByRecursion (λ b. 128 ≤ b) bs → flat_map escaped bs ≡ bs
high_escaped [] h = refl
high_escaped (b ∷ bs) h = ap (λ z. z ++ flat_map escaped bs) (same_escaped b h.0) ∙ ap (λ z. b ∷ z) (high_escaped bs h.1)

high_bytes : (c : ℕ) → 128 ≤ c → AllByRecursion (λ b. 128 ≤ b) (encode_utf8 c)
unfolding encode_utf8
high_bytes c l = by_size (nat_lt c 2048) (nat_lt c 65536) refl refl
  where
    by_size : (x y : Bool) → nat_lt c 2048 ≡ x → nat_lt c 65536 ≡ y → AllByRecursion (λ b. 128 ≤ b) (encode_utf8 c)
    by_size true y e f = rw (le-ltb c 128 l, e) (omega arith, (omega arith, tt))
    by_size false true e f = rw (le-ltb c 128 l, e, f) (omega arith, (omega arith, (omega arith, tt)))
    by_size false false e f = rw (le-ltb c 128 l, e, f) (omega arith, (omega arith, (omega arith, (omega arith, tt))))

one_utf8 : (c : ℕ) → IsScalar c → IsUtf8 (flat_map escaped (encode_utf8 c))
one_utf8 c s = elim (cases_lt c 128) [
  | inl h ↦ subst (λ z. IsUtf8 (flat_map escaped z)) (sym (encode_ascii c h)) (ascii_utf8 (escaped c ++ []) (ascii_append (escaped c) [] (escaped_ascii c h) tt))
  | inr h ↦ subst IsUtf8 (sym (high_escaped (encode_utf8 c) (high_bytes c h))) (IsUtf8-encode c s)
]

both : (x y : Bool) → (x && y) ≡ true → (x ≡ true) × (y ≡ true)
both true y e = (refl, e)
both false y e = cc

first_scalar : (c : ℕ) (cs : List ℕ) → all_scalars (c ∷ cs) ≡ true → IsScalar c × (all_scalars cs ≡ true)
first_scalar c cs s = both _ _ s

all_utf8 : (cs : List ℕ) → all_scalars cs ≡ true → IsUtf8 (flat_map escaped (encode_utf8_all cs))
all_utf8 [] s = IsUtf8-nil
all_utf8 (c ∷ cs) s =
    let h = first_scalar c cs s in
    subst IsUtf8 (sym (flat_map-append escaped (encode_utf8 c) (encode_utf8_all cs)))
    (IsUtf8-append (flat_map escaped (encode_utf8 c)) (flat_map escaped (encode_utf8_all cs)) (one_utf8 c h.0) (all_utf8 cs h.1))

quote_utf8 : IsUtf8 (34 ∷ [])
quote_utf8 = ascii_utf8 (34 ∷ []) (omega arith, tt)

pub quoted_utf8 : (text : List ℕ) → IsUtf8 text → IsUtf8 (quoted text)
quoted_utf8 text (cs, (s, e)) =
    let inner : IsUtf8 (flat_map escaped text) = subst (λ z. IsUtf8 (flat_map escaped z)) e (all_utf8 cs s) in
    IsUtf8-append (34 ∷ []) (flat_map escaped text ++ 34 ∷ []) quote_utf8 (IsUtf8-append (flat_map escaped text) (34 ∷ []) inner quote_utf8)

-- ---- numbers

digit_small : (b : ℕ) → IsTrue (is_digit b) → b < 128
digit_small b d = let h = leb-true b 57 (both (nat_le 48 b) (nat_le b 57) d).1 in omega (arith, h)

digits_ascii : (ds : List ℕ) → AllDigits ds → AllAscii ds
digits_ascii [] p = tt
digits_ascii (d ∷ ds) p = (digit_small d p.0, digits_ascii ds p.1)

ascii_at : (t u : List ℕ) → t ≡ u → AllAscii u → AllAscii t
ascii_at t u e p = subst AllAscii (sym e) p

minus_ascii : (t : List ℕ) → IsMinus t → AllAscii t
minus_ascii t (inl e) = ascii_at t [] e tt
minus_ascii t (inr e) = ascii_at t (45 ∷ []) e (omega arith, tt)

sign_ascii : (t : List ℕ) → IsSign t → AllAscii t
sign_ascii t (inl e) = ascii_at t [] e tt
sign_ascii t (inr (inl e)) = ascii_at t (45 ∷ []) e (omega arith, tt)
sign_ascii t (inr (inr e)) = ascii_at t (43 ∷ []) e (omega arith, tt)

whole_ascii : (t : List ℕ) → IsIntegerPart t → AllAscii t
whole_ascii t (inl e) = ascii_at t (48 ∷ []) e (omega arith, tt)
whole_ascii t (inr w) = ascii_at t (w.0 ∷ w.1) w.2 (digit_small w.0 w.4, digits_ascii w.1 w.5)

fraction_ascii : (t : List ℕ) → IsFraction t → AllAscii t
fraction_ascii t (inl e) = ascii_at t [] e tt
fraction_ascii t (inr f) = ascii_at t (46 ∷ f.0) f.1 (omega arith, digits_ascii f.0 f.2.0)

exponent_ascii : (t : List ℕ) → IsExponent t → AllAscii t
exponent_ascii t (inl e) = ascii_at t [] e tt
exponent_ascii t (inr x) = ascii_at t (x.0 ∷ x.1 ++ x.2) x.3 (mark x.0 x.4, ascii_append x.1 x.2 (sign_ascii x.1 x.5) (digits_ascii x.2 x.6.0))
  where
    mark : (b : ℕ) → (b ≡ 101) ⊎ (b ≡ 69) → b < 128
    mark b (inl e) = omega arith
    mark b (inr e) = omega arith

number_utf8 : (text : List ℕ) → IsNumber text → IsUtf8 text
number_utf8 text n =
    ascii_utf8 text
    (ascii_at text (n.minus ++ (n.whole ++ (n.fraction ++ n.exponent))) n.parts
    (ascii_append n.minus _ (minus_ascii n.minus n.is_minus) (ascii_append n.whole _ (whole_ascii n.whole n.is_whole)
    (ascii_append n.fraction n.exponent (fraction_ascii n.fraction n.is_fraction) (exponent_ascii n.exponent n.is_exponent)))))

-- ---- lists

byte_utf8 : (b : ℕ) → b < 128 → IsUtf8 (b ∷ [])
byte_utf8 b l = ascii_utf8 (b ∷ []) (l, tt)

behind_utf8 : (b : ℕ) (text : List ℕ) → b < 128 → IsUtf8 text → IsUtf8 (b ∷ text)
behind_utf8 b text l h = IsUtf8-append (b ∷ []) text (byte_utf8 b l) h

rest_utf8 : (texts : List (List ℕ)) → AllByRecursion IsUtf8 texts → IsUtf8 (flat_map (λ y. 44 ∷ y) texts)
rest_utf8 [] h = IsUtf8-nil
rest_utf8 (text ∷ texts) h = IsUtf8-append (44 ∷ text) (flat_map (λ y. 44 ∷ y) texts) (behind_utf8 44 text (omega arith) h.0) (rest_utf8 texts h.1)

joined_utf8 : (texts : List (List ℕ)) → AllByRecursion IsUtf8 texts → IsUtf8 (joined texts)
joined_utf8 [] h = IsUtf8-nil
joined_utf8 (text ∷ texts) h = IsUtf8-append text (flat_map (λ y. 44 ∷ y) texts) h.0 (rest_utf8 texts h.1)

held_utf8 : (b c : ℕ) (texts : List (List ℕ)) → b < 128 → c < 128 → AllByRecursion IsUtf8 texts → IsUtf8 (b ∷ joined texts ++ c ∷ [])
held_utf8 b c texts l m h = behind_utf8 b (joined texts ++ c ∷ []) l (IsUtf8-append (joined texts) (c ∷ []) (joined_utf8 texts h) (byte_utf8 c m))

trees_utf8 : (ts : List Tree) → AllByRecursion (λ t. IsUtf8 (compact t)) ts → AllByRecursion IsUtf8 (map compact ts)
trees_utf8 [] h = tt
trees_utf8 (t ∷ ts) h = (h.0, trees_utf8 ts h.1)

members_utf8 : (ms : List (List ℕ × Tree)) → AllByRecursion (λ m. IsUtf8 (compact_member m)) ms → AllByRecursion IsUtf8 (map member_text (map (λ m. (m.0, compact m.1)) ms))
members_utf8 [] h = tt
members_utf8 (m ∷ ms) h = (h.0, members_utf8 ms h.1)

pub member_utf8 : (name : List ℕ) (t : Tree) → IsUtf8 name → IsUtf8 (compact t) → IsUtf8 (compact_member (name, t))
member_utf8 name t h k = IsUtf8-append (quoted name) (58 ∷ compact t) (quoted_utf8 name h) (behind_utf8 58 (compact t) (omega arith) k)

-- ---- of each kind of tree

level_utf8 : (t u : Tree) (x : Tree-F Tree) → t ≡ u → roll-Tree x ≡ u → IsUtf8 (compact_step (map-Tree Tree (List ℕ) compact x)) → IsUtf8 (compact t)
level_utf8 t u x e r h = subst IsUtf8 (sym (ap compact (e ∙ sym r) ∙ fold-roll-Tree (List ℕ) compact_step x)) h

pub utf8_null : (t : Tree) → t ≡ tree.Null → IsUtf8 (compact t)
utf8_null t e = level_utf8 t tree.Null Tree-F.Null e rolls-Null (ascii_utf8 (codes "null") (omega arith, (omega arith, (omega arith, (omega arith, tt)))))

flag_utf8 : (b : Bool) → IsUtf8 (if b then codes "true" else codes "false")
flag_utf8 true = ascii_utf8 (codes "true") (omega arith, (omega arith, (omega arith, (omega arith, tt))))
flag_utf8 false = ascii_utf8 (codes "false") (omega arith, (omega arith, (omega arith, (omega arith, (omega arith, tt)))))

pub utf8_bool : (t : Tree) (b : Bool) → t ≡ tree.Bool b → IsUtf8 (compact t)
utf8_bool t b e = level_utf8 t (tree.Bool b) (Tree-F.Bool b) e (rolls-Bool b) (flag_utf8 b)

pub utf8_num : (t : Tree) (lexeme bytes : List ℕ) → t ≡ tree.Num lexeme → bytes ≡ lexeme → IsNumber bytes → IsUtf8 (compact t)
utf8_num t lexeme bytes e f n = level_utf8 t (tree.Num lexeme) (Tree-F.Num lexeme) e (rolls-Num lexeme) (number_utf8 lexeme (subst IsNumber f n))

pub utf8_str : (t : Tree) (text bytes : List ℕ) → t ≡ tree.Str text → bytes ≡ text → IsUtf8 bytes → IsUtf8 (compact t)
utf8_str t text bytes e f h = level_utf8 t (tree.Str text) (Tree-F.Str text) e (rolls-Str text) (quoted_utf8 text (subst IsUtf8 f h))

pub utf8_array : (t : Tree) (ts : List Tree) → t ≡ tree.Array ts → All (λ u. IsUtf8 (compact u)) ts → IsUtf8 (compact t)
utf8_array t ts e h =
    level_utf8 t (tree.Array ts) (Tree-F.Array ts) e (rolls-Array ts)
    (held_utf8 91 93 (map compact ts) (omega arith) (omega arith) (trees_utf8 ts (recursion_from_All (λ u. IsUtf8 (compact u)) ts h)))

pub utf8_object : (t : Tree) (d : Distinct Tree) → t ≡ tree.Object d → All (λ m. IsUtf8 (compact_member m)) d.members → IsUtf8 (compact t)
utf8_object t d e h =
    level_utf8 t (tree.Object d) (Tree-F.Object d) e (rolls-Object d)
    (held_utf8 123 125 _ (omega arith) (omega arith) (members_utf8 d.members (recursion_from_All (λ (m : List ℕ × Tree). IsUtf8 (compact_member m)) d.members h)))
