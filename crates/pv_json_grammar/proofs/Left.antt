-- What reading leaves, be it behind a value or at a fault, is no more than what it was given.
use Rattle.std.proofs.Common.{◌≡◌, ℕ, zero, suc, ◌+◌, ◌-◌, ◌*◌, ◌==◌, ◌≤◌, Bool, true, false, cond, List, [], ◌∷◌, ◌++◌, length, drop, take, Ok, Err, arith, length-drop}
use Rattle.std.specs.Prelude.{Result, nat_le, nat_lt, ◌&&◌, ◌||◌, encode_utf8, codes}
use Rattle.pv_number.specs.Scanning.{◌>>=◌, begins, digits, some_digits, minus_len, sign_len, whole_len, fraction_len, exponent_len, number_len}
use Rattle.pv_tree.specs.declared.Tree.{Tree}
use Rattle.pv_tree.specs.declared.Tree.TheVariants as tree
use Rattle.pv_json_grammar.specs.Reading.{Reads, byte_in, past, after, is_blank, skip, number}
use Rattle.pv_json_grammar.specs.Strings.{raw, raw_third, second_least, second_most, hex_value, hex, two, first_code, low_code, is_high, joined, unicode, escaped, escape, plain, goes_on, after_plain, turn, string_from, string}
use Rattle.pv_json_grammar.specs.Values.{behind, several, group, object_tree, array, member, object, word, value_by, value, document}

-- a result whose size, and at a fault what is left, is at most n
abbrev pub Within : {A : Type 0} → (A → ℕ) → ℕ → Result A ℕ → Type 0
Within size n (Ok x) = size x ≤ n
Within size n (Err left) = left ≤ n

bind_in : {A B : Type 0} (s : A → ℕ) (t : B → ℕ) (n : ℕ) (r : Result A ℕ) (f : A → Result B ℕ)
    → Within s n r → ((x : A) → s x ≤ n → Within t n (f x)) → Within t n (r >>= f)
bind_in s t n (Ok x) f w g = g x w
bind_in s t n (Err left) f w g = w

cond_in : {A : Type 0} (s : A → ℕ) (n : ℕ) (b : Bool) (r q : Result A ℕ) → Within s n r → Within s n q → Within s n (cond b r q)
cond_in s n true r q v w = v
cond_in s n false r q v w = w

-- what follows a value
abbrev left_of : {A : Type 0} → A × List ℕ → ℕ
left_of x = length x.1

abbrev Keeps : {A : Type 0} → ℕ → Reads A → Type 0
Keeps n r = Within left_of n r

drop_in : (k n : ℕ) (bs : List ℕ) → length bs ≤ n → length (drop k bs) ≤ n
drop_in k n bs l = rw (length-drop k bs) (omega arith)

byte_in_in : (lo hi n : ℕ) (bs : List ℕ) → length bs ≤ n → Keeps n (byte_in lo hi bs)
unfolding byte_in
byte_in_in lo hi n [] l = omega arith
byte_in_in lo hi n (b ∷ bs) l = cond_in left_of n (nat_le lo b && nat_le b hi) (Ok (b, bs)) (Err (length bs + 1)) (omega arith) (omega arith)

past_in : (w n : ℕ) (bs : List ℕ) → length bs ≤ n → Within length n (past w bs)
unfolding past
past_in w n [] l = omega arith
past_in w n (b ∷ bs) l = cond_in length n (b == w) (Ok bs) (Err (length bs + 1)) (omega arith) (omega arith)

after_in : (ws : List ℕ) (n : ℕ) (bs : List ℕ) → length bs ≤ n → Within length n (after ws bs)
unfolding after
after_in [] n bs l = l
after_in (w ∷ ws) n [] l = omega arith
after_in (w ∷ ws) n (b ∷ bs) l = cond_in length n (b == w) (after ws bs) (Err (length bs + 1)) (after_in ws n bs (omega arith)) (omega arith)

no_longer : (n : ℕ) (b : Bool) (xs ys : List ℕ) → length xs ≤ n → length ys ≤ n → length (cond b xs ys) ≤ n
no_longer n true xs ys l m = l
no_longer n false xs ys l m = m

skip_in : (n : ℕ) (bs : List ℕ) → length bs ≤ n → length (skip bs) ≤ n
unfolding skip
skip_in n [] l = l
skip_in n (b ∷ bs) l = no_longer n (is_blank b) (skip bs) (b ∷ bs) (skip_in n bs (omega arith)) l

-- of a length nothing is said
abbrev pub none : ℕ → ℕ
none m = 0

some_digits_in : (k n : ℕ) (bs : List ℕ) → length bs ≤ n → Within none n (some_digits k bs)
some_digits_in k n bs l = cond_in none n (digits (drop k bs) == 0) (Err (length bs - k)) (Ok (digits (drop k bs) + k)) (omega arith) (omega arith)

whole_len_in : (n : ℕ) (bs : List ℕ) → length bs ≤ n → Within none n (whole_len bs)
unfolding whole_len
whole_len_in n bs l = cond_in none n (begins 48 bs) (Ok 1) (some_digits 0 bs) (omega arith) (some_digits_in 0 n bs l)

fraction_len_in : (n : ℕ) (bs : List ℕ) → length bs ≤ n → Within none n (fraction_len bs)
unfolding fraction_len
fraction_len_in n bs l = cond_in none n (begins 46 bs) (some_digits 1 bs) (Ok 0) (some_digits_in 1 n bs l) (omega arith)

exponent_len_in : (n : ℕ) (bs : List ℕ) → length bs ≤ n → Within none n (exponent_len bs)
unfolding exponent_len
exponent_len_in n bs l = cond_in none n (begins 101 bs || begins 69 bs) (some_digits (sign_len (drop 1 bs) + 1) bs) (Ok 0) (some_digits_in (sign_len (drop 1 bs) + 1) n bs l) (omega arith)

number_len_in : (n : ℕ) (bs : List ℕ) → length bs ≤ n → Within none n (number_len bs)
unfolding number_len
number_len_in n bs l =
    bind_in none none n (whole_len (drop (minus_len bs) bs)) _ (whole_len_in n (drop (minus_len bs) bs) (drop_in (minus_len bs) n bs l)) (λ w z.
    bind_in none none n (fraction_len (drop (minus_len bs + w) bs)) _ (fraction_len_in n (drop (minus_len bs + w) bs) (drop_in (minus_len bs + w) n bs l)) (λ f z.
    bind_in none none n (exponent_len (drop (minus_len bs + w + f) bs)) _ (exponent_len_in n (drop (minus_len bs + w + f) bs) (drop_in (minus_len bs + w + f) n bs l)) (λ e z. omega arith)))

number_in : (n : ℕ) (bs : List ℕ) → length bs ≤ n → Keeps n (number bs)
unfolding number
number_in n bs l = bind_in none left_of n (number_len bs) (λ m. Ok (take m bs, drop m bs)) (number_len_in n bs l) (λ m z. drop_in m n bs l)

raw_third_in : (b c n : ℕ) (bs : List ℕ) → length bs ≤ n → Keeps n (raw_third b c bs)
raw_third_in b c n bs l = bind_in left_of left_of n (byte_in 128 191 bs) _ (byte_in_in 128 191 n bs l) (λ d m.
    cond_in left_of n (nat_lt b 240) (Ok (b ∷ c ∷ d.0 ∷ [], d.1)) (byte_in 128 191 d.1 >>= λ e. Ok (b ∷ c ∷ d.0 ∷ e.0 ∷ [], e.1)) m
    (bind_in left_of left_of n (byte_in 128 191 d.1) _ (byte_in_in 128 191 n d.1 m) (λ e k. k)))

raw_in : (n : ℕ) (bs : List ℕ) → length bs ≤ n → Keeps n (raw bs)
unfolding raw
raw_in n [] l = omega arith
raw_in n (b ∷ bs) l = cond_in left_of n (nat_lt b 194 || nat_lt 244 b) (Err (length bs + 1)) _ (omega arith)
    (bind_in left_of left_of n (byte_in (second_least b) (second_most b) bs) _ (byte_in_in (second_least b) (second_most b) n bs (omega arith)) (λ c m.
    cond_in left_of n (nat_lt b 224) (Ok (b ∷ c.0 ∷ [], c.1)) (raw_third b c.0 c.1) m (raw_third_in b c.0 n c.1 m)))

hex_in : (lo hi n : ℕ) (bs : List ℕ) → length bs ≤ n → Keeps n (hex lo hi bs)
unfolding hex
hex_in lo hi n [] l = omega arith
hex_in lo hi n (b ∷ bs) l = cond_in left_of n (nat_le lo (hex_value b) && nat_le (hex_value b) hi) (Ok (hex_value b, bs)) (Err (length bs + 1)) (omega arith) (omega arith)

two_in : (u n : ℕ) (bs : List ℕ) → length bs ≤ n → Keeps n (two u bs)
unfolding two
two_in u n bs l =
    bind_in left_of left_of n (hex 0 15 bs) _ (hex_in 0 15 n bs l) (λ c m.
    bind_in left_of left_of n (hex 0 15 c.1) _ (hex_in 0 15 n c.1 m) (λ d k. k))

first_code_in : (n : ℕ) (bs : List ℕ) → length bs ≤ n → Keeps n (first_code bs)
unfolding first_code
first_code_in n bs l =
    bind_in left_of left_of n (hex 0 15 bs) _ (hex_in 0 15 n bs l) (λ a m.
    bind_in left_of left_of n (hex 0 (cond (a.0 == 13) 11 15) a.1) _ (hex_in 0 (cond (a.0 == 13) 11 15) n a.1 m) (λ b k.
    two_in (a.0 * 16 + b.0) n b.1 k))

low_code_in : (n : ℕ) (bs : List ℕ) → length bs ≤ n → Keeps n (low_code bs)
unfolding low_code
low_code_in n bs l =
    bind_in left_of left_of n (byte_in 92 92 bs) _ (byte_in_in 92 92 n bs l) (λ p i.
    bind_in left_of left_of n (byte_in 117 117 p.1) _ (byte_in_in 117 117 n p.1 i) (λ q j.
    bind_in left_of left_of n (hex 13 13 q.1) _ (hex_in 13 13 n q.1 j) (λ a m.
    bind_in left_of left_of n (hex 12 15 a.1) _ (hex_in 12 15 n a.1 m) (λ b k.
    two_in (208 + b.0) n b.1 k))))

unicode_in : (n : ℕ) (bs : List ℕ) → length bs ≤ n → Keeps n (unicode bs)
unfolding unicode
unicode_in n bs l = bind_in left_of left_of n (first_code bs) _ (first_code_in n bs l) (λ u m.
    cond_in left_of n (is_high u.0) (low_code u.1 >>= (λ v. Ok (encode_utf8 (joined u.0 v.0), v.1))) (Ok (encode_utf8 u.0, u.1))
    (bind_in left_of left_of n (low_code u.1) _ (low_code_in n u.1 m) (λ v k. k)) m)

escape_in : (n : ℕ) (bs : List ℕ) → length bs ≤ n → Keeps n (escape bs)
unfolding escape
escape_in n [] l = omega arith
escape_in n (b ∷ bs) l = cond_in left_of n (b == 117) (unicode bs) _ (unicode_in n bs (omega arith))
    (cond_in left_of n (escaped b == 0) (Err (length bs + 1)) (Ok (escaped b ∷ [], bs)) (omega arith) (omega arith))

-- what follows a turn
abbrev pub turn_left : Bool × List ℕ × List ℕ → ℕ
turn_left x = length x.2

goes_on_in : (n : ℕ) (out : List ℕ) (r : Reads (List ℕ)) → Keeps n r → Within turn_left n (goes_on out r)
goes_on_in n out r w = bind_in left_of turn_left n r _ w (λ x k. k)

after_plain_in : (n : ℕ) (out bs : List ℕ) → length bs ≤ n → Within turn_left n (after_plain out bs)
after_plain_in n out [] l = omega arith
after_plain_in n out (b ∷ bs) l = cond_in turn_left n (b == 34) (Ok (true, out, bs)) _ (omega arith)
    (cond_in turn_left n (b == 92) (goes_on out (escape bs)) (goes_on out (raw (b ∷ bs)))
    (goes_on_in n out (escape bs) (escape_in n bs (omega arith))) (goes_on_in n out (raw (b ∷ bs)) (raw_in n (b ∷ bs) l)))

turn_in : (n : ℕ) (out bs : List ℕ) → length bs ≤ n → Within turn_left n (turn out bs)
unfolding turn
turn_in n out bs l = after_plain_in n (out ++ take (plain bs) bs) (drop (plain bs) bs) (drop_in (plain bs) n bs l)

string_from_in : (k n : ℕ) (out bs : List ℕ) → length bs ≤ n → Keeps n (string_from k out bs)
unfolding string_from
string_from_in zero n out bs l = l
string_from_in (suc k) n out bs l = bind_in turn_left left_of n (turn out bs) _ (turn_in n out bs l) (λ x m.
    cond_in left_of n x.0 (Ok (x.1, x.2)) (string_from k x.1 x.2) m (string_from_in k n x.1 x.2 m))

module _ {A : Type 0} (n : ℕ) (inner : List ℕ → Reads A) (close : ℕ) (finish : List A → Tree)
    (inner_in : (bs : List ℕ) → length bs ≤ n → Keeps n (inner bs)) where
  behind_in : (more : List A → List ℕ → Reads Tree) → ((all : List A) (bs : List ℕ) → length bs ≤ n → Keeps n (more all bs))
      → (all : List A) (bs : List ℕ) → length bs ≤ n → Keeps n (behind inner close finish more all bs)
  behind_in more more_in all [] l = omega arith
  behind_in more more_in all (b ∷ bs) l = cond_in left_of n (b == 44) (more all bs) _ (more_in all bs (omega arith))
      (cond_in left_of n (b == close) (Ok (finish all, bs)) (Err (length bs + 1)) (omega arith) (omega arith))

  several_in : (k : ℕ) (all : List A) (bs : List ℕ) → length bs ≤ n → Keeps n (several inner close finish k all bs)
  unfolding several
  several_in zero all bs l = l
  several_in (suc k) all bs l = bind_in left_of left_of n (inner bs) _ (inner_in bs l) (λ x m.
      behind_in (several inner close finish k) (several_in k) (all ++ x.0 ∷ []) (skip x.1) (skip_in n x.1 m))

  group_in : (bs : List ℕ) → length bs ≤ n → Keeps n (group inner close finish bs)
  group_in bs l =
      cond_in left_of n (begins close bs) (Ok (finish [], drop 1 bs)) (several inner close finish (length bs) [] bs) (drop_in 1 n bs l) (several_in (length bs) [] bs l)

module _ (n : ℕ) (inner : List ℕ → Reads Tree) (inner_in : (bs : List ℕ) → length bs ≤ n → Keeps n (inner bs)) where
  array_in : (bs : List ℕ) → length bs ≤ n → Keeps n (array inner bs)
  unfolding array
  array_in bs l = group_in n inner 93 tree.Array inner_in (skip bs) (skip_in n bs l)

  member_in : (bs : List ℕ) → length bs ≤ n → Keeps n (member inner bs)
  unfolding member
  member_in bs l =
      bind_in length left_of n (past 34 (skip bs)) _ (past_in 34 n (skip bs) (skip_in n bs l)) (λ q h.
      bind_in left_of left_of n (string q) _ (string_from_in (length q) n [] q h) (λ name i.
      bind_in length left_of n (past 58 (skip name.1)) _ (past_in 58 n (skip name.1) (skip_in n name.1 i)) (λ r j.
      bind_in left_of left_of n (inner r) _ (inner_in r j) (λ v m. m))))

  object_in : (bs : List ℕ) → length bs ≤ n → Keeps n (object inner bs)
  unfolding object
  object_in bs l = group_in n (member inner) 125 object_tree member_in (skip bs) (skip_in n bs l)

word_in : (w : List ℕ) (t : Tree) (n : ℕ) (bs : List ℕ) → length bs ≤ n → Keeps n (word w t bs)
word_in w t n bs l = bind_in length left_of n (after w bs) _ (after_in w n bs l) (λ r k. k)

value_by_in : (n : ℕ) (arrays objects : List ℕ → Reads Tree)
    → ((bs : List ℕ) → length bs ≤ n → Keeps n (arrays bs)) → ((bs : List ℕ) → length bs ≤ n → Keeps n (objects bs))
    → (bs : List ℕ) → length bs ≤ n → Keeps n (value_by arrays objects bs)
value_by_in n arrays objects arrays_in objects_in [] l = omega arith
value_by_in n arrays objects arrays_in objects_in (b ∷ bs) l =
    cond_in left_of n (b == 110) (word (codes "null") tree.Null (b ∷ bs)) _ (word_in (codes "null") tree.Null n (b ∷ bs) l)
    (cond_in left_of n (b == 116) (word (codes "true") (tree.Bool true) (b ∷ bs)) _ (word_in (codes "true") (tree.Bool true) n (b ∷ bs) l)
    (cond_in left_of n (b == 102) (word (codes "false") (tree.Bool false) (b ∷ bs)) _ (word_in (codes "false") (tree.Bool false) n (b ∷ bs) l)
    (cond_in left_of n (b == 34) (string bs >>= (λ x. Ok (tree.Str x.0, x.1))) _
    (bind_in left_of left_of n (string bs) _ (string_from_in (length bs) n [] bs (omega arith)) (λ x k. k))
    (cond_in left_of n (b == 91) (arrays (b ∷ bs)) _ (arrays_in (b ∷ bs) l)
    (cond_in left_of n (b == 123) (objects (b ∷ bs)) _ (objects_in (b ∷ bs) l)
    (bind_in left_of left_of n (number (b ∷ bs)) _ (number_in n (b ∷ bs) l) (λ x k. k)))))))

value_in : (nesting n : ℕ) (bs : List ℕ) → length bs ≤ n → Keeps n (value nesting bs)
unfolding value
value_in zero n bs l = value_by_in n (λ all. Err (length all)) (λ all. Err (length all)) (λ all k. k) (λ all k. k) (skip bs) (skip_in n bs l)
value_in (suc m) n bs l = value_by_in n (λ all. array (value m) (drop 1 all)) (λ all. object (value m) (drop 1 all))
    (λ all k. array_in n (value m) (value_in m n) (drop 1 all) (drop_in 1 n all k))
    (λ all k. object_in n (value m) (value_in m n) (drop 1 all) (drop_in 1 n all k)) (skip bs) (skip_in n bs l)

-- of a tree nothing is said
abbrev nothing : Tree → ℕ
nothing t = 0

document_in : (nesting : ℕ) (bs : List ℕ) → Within nothing (length bs) (document nesting bs)
unfolding document
document_in nesting bs = bind_in left_of nothing (length bs) (value nesting bs) _ (value_in nesting (length bs) bs (omega arith)) (λ x m.
    cond_in nothing (length bs) (length (skip x.1) == 0) (Ok x.0) (Err (length (skip x.1))) (omega arith) (skip_in (length bs) x.1 m))

err_same : (k left : ℕ) → (let a : Result Tree ℕ = Err k in a) ≡ Err left → k ≡ left
err_same k left e = cc

fault_within : (r : Result Tree ℕ) (n left : ℕ) → Within nothing n r → r ≡ Err left → left ≤ n
fault_within (Ok t) n left w e = cc
fault_within (Err k) n left w e = let same : k ≡ left = err_same k left e in omega (arith, w, same)

-- No more is left at a fault than the whole input.
pub document_left : (nesting : ℕ) (bs : List ℕ) (left : ℕ) → document nesting bs ≡ Err left → left ≤ length bs
document_left nesting bs left e = fault_within (document nesting bs) (length bs) left (document_in nesting bs) e
