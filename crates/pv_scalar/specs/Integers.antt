-- Trees as ints. A number that is written without a point and an exponent is an int by itself.
-- Another number stands for one where it is whole, and so do a flag and a text in which a whole
-- number stands.
use Rattle.std.specs.Prelude.{ℕ, Bool, not, if◌then◌else◌, List, ℤ, pos, int_lt, Option, None, Some, Ok, Err}
use Rattle.pv_number.specs.ExactNumber.{is_integer}
use Rattle.pv_number.specs.declared.Whole.{Whole}
use Rattle.pv_number.specs.declared.Whole.TheVariants.{Fits, TooBig, Fraction}
use Rattle.pv_tree.specs.declared.Tree.{Tree, out-Tree}
use Rattle.pv_tree.specs.declared.Tree.TheOpen.{Tree-F}
use Rattle.pv_rules.specs.declared.IntRule.{IntRule}
use Rattle.pv_fault.specs.declared.Grade.{Grade}
use Rattle.pv_fault.specs.declared.Grade.TheVariants.{Lax, Exact}
use Rattle.pv_fault.specs.declared.Kind.{Kind}
use Rattle.pv_fault.specs.declared.Kind.TheVariants as kind
use Rattle.pv_numeric.specs.WholeNumbers.{whole_of}
use Rattle.pv_numeric.specs.NumericStrings.{numeric_string}
use Rattle.pv_numeric.specs.Multiples.{is_multiple}
use Rattle.pv_scalar.specs.Tests.{Graded, by_column, unless, ◌orelse◌}

-- a whole number as an int of this grade
abbrev pub whole_int : Grade → Whole → Graded ℤ
whole_int grade (Fits n) = Ok (n, grade)
whole_int grade TooBig = Err kind.IntParsingSize
whole_int grade Fraction = Err kind.IntFromFloat

-- a number
abbrev pub number_int : Bool → List ℕ → Graded ℤ
number_int strict lexeme =
    if is_integer lexeme then whole_int Exact (whole_of lexeme)
    else by_column strict (whole_int Lax (whole_of lexeme)) (Err kind.IntType)

-- the whole number that stands in a text
abbrev pub text_int : Option Whole → Graded ℤ
text_int (Some whole) = whole_int Lax whole
text_int None = Err kind.IntParsing

-- a flag
abbrev pub flag_int : Bool → ℤ
flag_int b = if b then pos 1 else pos 0

-- by one level of the tree
abbrev pub int_at : Bool → Tree-F Tree → Graded ℤ
int_at strict (Tree-F.Num lexeme) = number_int strict lexeme
int_at strict (Tree-F.Bool b) = by_column strict (Ok (flag_int b, Lax)) (Err kind.IntType)
int_at strict (Tree-F.Str text) =
    by_column strict (text_int (numeric_string text)) (Err kind.IntType)
int_at strict Tree-F.Null = Err kind.IntType
int_at strict (Tree-F.Array ts) = Err kind.IntType
int_at strict (Tree-F.Object ms) = Err kind.IntType

-- of a tree
unfoldable pub int_of : Bool → Tree → Graded ℤ
int_of strict tree = int_at strict (out-Tree tree)

-- an int that does not pass the bound
abbrev pub at_most : ℤ → ℤ → Bool
at_most n bound = not (int_lt bound n)

-- the upper bound that the int does not keep
unfoldable pub upper_fault : IntRule → ℤ → Option Kind
upper_fault rule n =
    unless rule.le (λ bound. at_most n bound) kind.LessThanEqual
    orelse unless rule.lt (λ bound. int_lt n bound) kind.LessThan

-- the lower bound that the int does not keep
unfoldable pub lower_fault : IntRule → ℤ → Option Kind
lower_fault rule n =
    unless rule.ge (λ bound. at_most bound n) kind.GreaterThanEqual
    orelse unless rule.gt (λ bound. int_lt bound n) kind.GreaterThan

-- the first test that the int does not pass
unfoldable pub int_fault : IntRule → ℤ → Option Kind
int_fault rule n =
    unless rule.multiple_of (λ m. is_multiple n m) kind.MultipleOf orelse upper_fault rule n
    orelse lower_fault rule n
