-- The key of a value by the shape of its level.
use Rattle.std.proofs.Common.{◌≡◌, ◌&&◌, ◌==◌, ℕ, Bool, true, false, List, [], ◌∷◌, ◌++◌, map, refl, sym, ◌∙◌, append-nil}
use Rattle.std.specs.Prelude.{bytes_eq, if◌then◌else◌, nat_lt, pos}
use Rattle.std.proofs.Math.Bool.{and-true}
use Rattle.std.specs.Ordering.{is_eq, nat_cmp}
use Rattle.pv_number.specs.ExactNumber.{Number, number}
use Rattle.pv_number.specs.NumberEquality.{int_number}
use Rattle.pv_tree.specs.declared.Value.{Value, map-Value}
use Rattle.pv_tree.specs.declared.Value.TheOpen.{Value-F}
use Rattle.pv_tree.specs.declared.Value.TheViews.{roll-Value}
use Rattle.pv_tree.specs.declared.Value.TheFolds.{fold-roll-Value}
use Rattle.pv_tree.specs.declared.AtomKind.{AtomKind}
use Rattle.pv_tree.specs.declared.AtomKind.TheVariants.{Uuid, Url, Date, Time, DateTime, Decimal}
use Rattle.pv_equality.specs.Equality.{same_number}
use Rattle.pv_equality.proofs.Numbers.{numbers_equiv}
use Rattle.pv_equality.proofs.Shapes.{Shape, Part, shape, same_own, lone, pair, named, atom_number}
use Rattle.pv_distinct.specs.declared.token.Token.TheVariants as token
use Rattle.pv_distinct.specs.Tokens.{token_kind, token_number, token_first, token_second, atom_mark}
use Rattle.pv_distinct.specs.Keys.{KeyTokens, key, key_at, joined, set_key, item_key, entry_key, field_key, start_at}
use Rattle.pv_distinct.proofs.Cutting.{alike, token_told}

abbrev pub part_key : Part Value → KeyTokens
part_key p = joined (map key p.1) ++ token.Name p.0 ∷ []

abbrev pub parts_key : List (Part Value) → KeyTokens
parts_key ps = set_key (map part_key ps)

abbrev pub inside_key : Shape Value → KeyTokens
inside_key s = joined (map key s.items) ++ (joined (map parts_key s.sets) ++ token.End ∷ [])

abbrev pub rest_key : Shape Value → KeyTokens
rest_key s = if nat_lt s.kind 5 then [] else inside_key s

lones : (vs : List Value) → map item_key (map key vs) ≡ map part_key (map lone vs)
lones [] = refl
lones (v ∷ vs) = λ i. (sym (append-nil (key v)) i ++ token.Name [] ∷ []) ∷ lones vs i

pairs : (es : List (Value × Value)) → map entry_key (map (λ e. (key e.0, key e.1)) es) ≡ map part_key (map pair es)
pairs [] = refl
pairs (e ∷ es) = λ i. ((key e.0 ++ sym (append-nil (key e.1)) i) ++ token.Name [] ∷ []) ∷ pairs es i

nameds : (fs : List (List ℕ × Value)) → map field_key (map (λ f. (f.0, key f.1)) fs) ≡ map part_key (map named fs)
nameds [] = refl
nameds (f ∷ fs) = λ i. (sym (append-nil (key f.1)) i ++ token.Name f.0 ∷ []) ∷ nameds fs i

one_inside : (k : KeyTokens) → k ++ token.End ∷ [] ≡ (k ++ []) ++ token.End ∷ []
one_inside k = λ i. sym (append-nil k) i ++ token.End ∷ []

abbrev keyed : Value-F Value → Value-F KeyTokens
keyed = map-Value Value KeyTokens key

level : (x : Value-F Value) → key_at (keyed x) ≡ start_at x ∷ rest_key (shape x)
level Value-F.None = refl
level (Value-F.Bool b) = refl
level (Value-F.Int n) = refl
level (Value-F.Lexeme lexeme) = refl
level (Value-F.Str text) = refl
level (Value-F.Bytes bytes) = refl
level (Value-F.Atom kind text) = refl
level (Value-F.Enum cls name v) = λ i. token.Enum cls name ∷ one_inside (key v) i
level (Value-F.List vs) = refl
level (Value-F.Tuple vs) = refl
level (Value-F.Set vs) = λ i. token.Set ∷ ((λ j. set_key (lones vs j) ++ token.End ∷ []) ∙ one_inside (parts_key (map lone vs))) i
level (Value-F.Frozen vs) = λ i. token.Set ∷ ((λ j. set_key (lones vs j) ++ token.End ∷ []) ∙ one_inside (parts_key (map lone vs))) i
level (Value-F.Dict es) = λ i. token.Dict ∷ ((λ j. set_key (pairs es j) ++ token.End ∷ []) ∙ one_inside (parts_key (map pair es))) i
level (Value-F.Model cls fs set es) = λ i. token.Model cls ∷ (
    (λ j. (set_key (nameds fs j) ++ set_key (nameds es j)) ++ token.End ∷ [])
    ∙ (λ j. (parts_key (map named fs) ++ sym (append-nil (parts_key (map named es))) j) ++ token.End ∷ [])) i
level (Value-F.Root cls v) = λ i. token.Root cls ∷ one_inside (key v) i

pub key_level : (x : Value-F Value) → key (roll-Value x) ≡ start_at x ∷ rest_key (shape x)
key_level x = fold-roll-Value KeyTokens key_at x ∙ level x

-- the own tokens of two levels are alike where the shapes have the same own part
abbrev pub zero_number : Number
zero_number = int_number (pos 0)

pub none_told : same_number zero_number zero_number ≡ true
none_told = numbers_equiv.refl zero_number

number_told : (m n : Number) → (true && (same_number m n && (true && true))) ≡ (true && (same_number m n && true) && true)
number_told m n = simp and-true

bare_told : (true && (same_number zero_number zero_number && (true && true))) ≡ true
bare_told = λ i. none_told i && true

text_told : (t u : List ℕ) → (true && (same_number zero_number zero_number && (bytes_eq t u && true))) ≡ (true && true && (bytes_eq t u && true))
text_told t u = simp (none_told, and-true)

marks_told : (k l : AtomKind) → bytes_eq (atom_mark k) (atom_mark l) ≡ ((atom_number k == atom_number l) && true)
marks_told Uuid Uuid = refl
marks_told Uuid Url = refl
marks_told Uuid Date = refl
marks_told Uuid Time = refl
marks_told Uuid DateTime = refl
marks_told Uuid Decimal = refl
marks_told Url Uuid = refl
marks_told Url Url = refl
marks_told Url Date = refl
marks_told Url Time = refl
marks_told Url DateTime = refl
marks_told Url Decimal = refl
marks_told Date Uuid = refl
marks_told Date Url = refl
marks_told Date Date = refl
marks_told Date Time = refl
marks_told Date DateTime = refl
marks_told Date Decimal = refl
marks_told Time Uuid = refl
marks_told Time Url = refl
marks_told Time Date = refl
marks_told Time Time = refl
marks_told Time DateTime = refl
marks_told Time Decimal = refl
marks_told DateTime Uuid = refl
marks_told DateTime Url = refl
marks_told DateTime Date = refl
marks_told DateTime Time = refl
marks_told DateTime DateTime = refl
marks_told DateTime Decimal = refl
marks_told Decimal Uuid = refl
marks_told Decimal Url = refl
marks_told Decimal Date = refl
marks_told Decimal Time = refl
marks_told Decimal DateTime = refl
marks_told Decimal Decimal = refl

swapped : (a b : Bool) → (a && b) ≡ (b && a)
swapped true true = refl
swapped true false = refl
swapped false true = refl
swapped false false = refl

atom_told : (k l : AtomKind) (t u : List ℕ) → (true && (same_number zero_number zero_number && (bytes_eq t u && bytes_eq (atom_mark k) (atom_mark l))))
    ≡ (true && true && (((atom_number k == atom_number l) && true) && (bytes_eq t u && true)))
atom_told k l t u =
    (λ i. true && (none_told i && (bytes_eq t u && marks_told k l i)))
    ∙ swapped (bytes_eq t u) ((atom_number k == atom_number l) && true)
    ∙ (λ i. ((atom_number k == atom_number l) && true) && sym (and-true (bytes_eq t u)) i)

enum_told : (c d n m : List ℕ) → (true && (same_number zero_number zero_number && (bytes_eq c d && bytes_eq n m))) ≡ (true && true && (bytes_eq c d && (bytes_eq n m && true)))
enum_told c d n m = simp (none_told, and-true)

abbrev is_kind : ℕ → ℕ → Bool
is_kind m n = is_eq (nat_cmp m n)

own_cases : (x y : Value-F Value)
    → (is_kind (token_kind (start_at x)) (token_kind (start_at y)) && (same_number (token_number (start_at x)) (token_number (start_at y)) && (bytes_eq (token_first (start_at x)) (token_first (start_at y)) && bytes_eq (token_second (start_at x)) (token_second (start_at y)))))
    ≡ same_own (shape x) (shape y)
own_cases Value-F.None Value-F.None = bare_told
own_cases (Value-F.Bool b) (Value-F.Bool c) = number_told (token_number (start_at (Value-F.Bool b))) (token_number (start_at (Value-F.Bool c)))
own_cases (Value-F.Bool b) (Value-F.Int n) = number_told (token_number (start_at (Value-F.Bool b))) (int_number n)
own_cases (Value-F.Bool b) (Value-F.Lexeme l) = number_told (token_number (start_at (Value-F.Bool b))) (number l)
own_cases (Value-F.Int n) (Value-F.Bool c) = number_told (int_number n) (token_number (start_at (Value-F.Bool c)))
own_cases (Value-F.Int n) (Value-F.Int m) = number_told (int_number n) (int_number m)
own_cases (Value-F.Int n) (Value-F.Lexeme l) = number_told (int_number n) (number l)
own_cases (Value-F.Lexeme l) (Value-F.Bool c) = number_told (number l) (token_number (start_at (Value-F.Bool c)))
own_cases (Value-F.Lexeme l) (Value-F.Int n) = number_told (number l) (int_number n)
own_cases (Value-F.Lexeme l) (Value-F.Lexeme k) = number_told (number l) (number k)
own_cases (Value-F.Str t) (Value-F.Str u) = text_told t u
own_cases (Value-F.Bytes t) (Value-F.Bytes u) = text_told t u
own_cases (Value-F.Atom k t) (Value-F.Atom l u) = atom_told k l t u
own_cases (Value-F.Enum c n v) (Value-F.Enum d m w) = enum_told c d n m
own_cases (Value-F.List vs) (Value-F.List ws) = bare_told
own_cases (Value-F.Tuple vs) (Value-F.Tuple ws) = bare_told
own_cases (Value-F.Set vs) (Value-F.Set ws) = bare_told
own_cases (Value-F.Set vs) (Value-F.Frozen ws) = bare_told
own_cases (Value-F.Frozen vs) (Value-F.Set ws) = bare_told
own_cases (Value-F.Frozen vs) (Value-F.Frozen ws) = bare_told
own_cases (Value-F.Dict ds) (Value-F.Dict es) = bare_told
own_cases (Value-F.Model c fs s es) (Value-F.Model d gs t ks) = text_told c d
own_cases (Value-F.Root c v) (Value-F.Root d w) = text_told c d
own_cases x y = refl

pub own_told : (x y : Value-F Value) → alike (start_at x) (start_at y) ≡ same_own (shape x) (shape y)
own_told x y = token_told (start_at x) (start_at y) ∙ own_cases x y

pub own_kind : (x : Value-F Value) → token_kind (start_at x) ≡ (shape x).kind
own_kind Value-F.None = refl
own_kind (Value-F.Bool b) = refl
own_kind (Value-F.Int n) = refl
own_kind (Value-F.Lexeme lexeme) = refl
own_kind (Value-F.Str text) = refl
own_kind (Value-F.Bytes bytes) = refl
own_kind (Value-F.Atom kind text) = refl
own_kind (Value-F.Enum cls name v) = refl
own_kind (Value-F.List vs) = refl
own_kind (Value-F.Tuple vs) = refl
own_kind (Value-F.Set vs) = refl
own_kind (Value-F.Frozen vs) = refl
own_kind (Value-F.Dict es) = refl
own_kind (Value-F.Model cls fs set es) = refl
own_kind (Value-F.Root cls v) = refl
