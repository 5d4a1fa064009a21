-- The first bytes of a notation tell the kind of the value.
use Rattle.std.proofs.Common.{◌≡◌, ◌≢◌, ℕ, ◌<◌, ◌≤◌, ◌==◌, ℤ, pos, negsuc, true, false, List, [], ◌∷◌, ◌++◌, refl, arith}
use Rattle.std.specs.Prelude.{if◌then◌else◌, FitsSigned}
use Rattle.std.specs.Int.{IsInRange, w128}
use Rattle.std.specs.Fmt.{decimal, signed_decimal}
use Rattle.std.proofs.lemmas.Bool.Decides.{nat_tests}
use Rattle.pv_tree.specs.declared.Value.TheOpen.{Value-F}
use Rattle.pv_tree.specs.declared.AtomKind.TheVariants.{Uuid, Url, Date, Time, DateTime, Decimal}
use Rattle.pv_notation.specs.Strings.{short_escape, escaped}
use Rattle.pv_notation.specs.Notation.{notation_step}
use Rattle.pv_notation.specs.Numbers.{IntAt}
use Rattle.pv_notation.proofs.Codes.{first}
use Rattle.pv_notation.proofs.Same.{IsShort, decimal_start}

pub short_int : (z : ℤ) → FitsSigned w128 z → IsShort z
short_int (pos n) f = omega (arith, f.sfits)
short_int (negsuc n) f = omega (arith, f.sfits)

-- a number for each kind: a letter of its tag, or its first byte
abbrev pub kind : {X : Type 0} → Value-F X → ℕ
kind Value-F.None = 1
kind (Value-F.Bool b) = 2
kind (Value-F.Int n) = 3
kind (Value-F.Str text) = 34
kind (Value-F.List values) = 91
kind (Value-F.Atom k text) = 0
kind (Value-F.Lexeme lexeme) = 110
kind (Value-F.Bytes bytes) = 98
kind (Value-F.Enum cls name value) = 101
kind (Value-F.Tuple values) = 116
kind (Value-F.Set values) = 115
kind (Value-F.Frozen values) = 102
kind (Value-F.Dict entries) = 100
kind (Value-F.Model cls fields set extra) = 109
kind (Value-F.Root cls value) = 114

abbrev kind_by_tag : List ℕ → ℕ
kind_by_tag (q ∷ c ∷ d ∷ rest) = if c == 117 then 0 else (if c == 100 then (if d == 105 then 100 else 0) else (if c == 116 then (if d == 117 then 116 else 0) else c))
kind_by_tag rest = 0

abbrev kind_by_first : ℕ → List ℕ → ℕ
kind_by_first b rest =
    if b == 110 then 1 else (if b == 116 then 2 else (if b == 102 then 2 else (if b == 34 then 34 else (if b == 91 then 91 else (if b == 123 then kind_by_tag rest else 3)))))

abbrev pub kind_of : List ℕ → ℕ
kind_of [] = 3
kind_of (b ∷ rest) = kind_by_first b rest

digit_kind : (b : ℕ) (rest : List ℕ) → b < 58 → 48 ≤ b → kind_by_first b rest ≡ 3
digit_kind b rest h l = grind (arith, nat_tests)

kind_of_digit : (t : List ℕ) → IsInRange 48 57 (first t) → kind_of t ≡ 3
kind_of_digit [] d = refl
kind_of_digit (b ∷ rest) d = digit_kind b rest (omega (arith, d.1)) d.0

kind_of_int : (n : ℤ) (r : List ℕ) → IsShort n → kind_of (signed_decimal n ++ r) ≡ 3
kind_of_int (pos n) r h = kind_of_digit (decimal n ++ r) (decimal_start n r h)
kind_of_int (negsuc n) r h = refl

pub kind_told : (x : Value-F (List ℕ)) (r : List ℕ) → IntAt x → kind_of (notation_step x ++ r) ≡ kind x
unfolding escaped short_escape
kind_told Value-F.None r i = refl
kind_told (Value-F.Bool true) r i = refl
kind_told (Value-F.Bool false) r i = refl
kind_told (Value-F.Int n) r i = kind_of_int n r (short_int n i)
kind_told (Value-F.Lexeme lexeme) r i = refl
kind_told (Value-F.Str text) r i = refl
kind_told (Value-F.Bytes bytes) r i = refl
kind_told (Value-F.Atom Uuid text) r i = refl
kind_told (Value-F.Atom Url text) r i = refl
kind_told (Value-F.Atom Date text) r i = refl
kind_told (Value-F.Atom Time text) r i = refl
kind_told (Value-F.Atom DateTime text) r i = refl
kind_told (Value-F.Atom Decimal text) r i = refl
kind_told (Value-F.Enum cls name value) r i = refl
kind_told (Value-F.List values) r i = refl
kind_told (Value-F.Tuple values) r i = refl
kind_told (Value-F.Set values) r i = refl
kind_told (Value-F.Frozen values) r i = refl
kind_told (Value-F.Dict entries) r i = refl
kind_told (Value-F.Model cls fields set extra) r i = refl
kind_told (Value-F.Root cls value) r i = refl

-- no notation begins with a closing bracket
pub level_start : (x : Value-F (List ℕ)) (r : List ℕ) → IntAt x → first (notation_step x ++ r) ≢ 93
level_start Value-F.None r i = omega arith
level_start (Value-F.Bool true) r i = omega arith
level_start (Value-F.Bool false) r i = omega arith
level_start (Value-F.Int (pos n)) r i = omega (arith, (decimal_start n r (short_int (pos n) i)).1)
level_start (Value-F.Int (negsuc n)) r i = omega arith
level_start (Value-F.Lexeme lexeme) r i = omega arith
level_start (Value-F.Str text) r i = omega arith
level_start (Value-F.Bytes bytes) r i = omega arith
level_start (Value-F.Atom k text) r i = omega arith
level_start (Value-F.Enum cls name value) r i = omega arith
level_start (Value-F.List values) r i = omega arith
level_start (Value-F.Tuple values) r i = omega arith
level_start (Value-F.Set values) r i = omega arith
level_start (Value-F.Frozen values) r i = omega arith
level_start (Value-F.Dict entries) r i = omega arith
level_start (Value-F.Model cls fields set extra) r i = omega arith
level_start (Value-F.Root cls value) r i = omega arith
