-- Trees as flags. A number that is 0 or 1 stands for one, and so do some words, in letters of
-- either case.
use Rattle.std.specs.Prelude.{ℕ, Bool, true, false, ◌||◌, if◌then◌else◌, List, codes, pos, Option, None, Some, Ok, Err}
use Rattle.std.specs.Ordering.{int_eq}
use Rattle.std.specs.Str.{str_eq_ignore_ascii_case}
use Rattle.pv_number.specs.declared.Whole.{Whole}
use Rattle.pv_number.specs.declared.Whole.TheVariants.{Fits, TooBig, Fraction}
use Rattle.pv_tree.specs.declared.Tree.{Tree, out-Tree}
use Rattle.pv_tree.specs.declared.Tree.TheOpen.{Tree-F}
use Rattle.pv_fault.specs.declared.Grade.TheVariants.{Lax, Exact}
use Rattle.pv_fault.specs.declared.Kind.TheVariants as kind
use Rattle.pv_numeric.specs.WholeNumbers.{whole_of}
use Rattle.pv_scalar.specs.Tests.{Graded, by_column}

-- a text that is the word, in letters of either case
abbrev pub is_word : List ℕ → List ℕ → Bool
is_word word text = str_eq_ignore_ascii_case text word

-- a word for true
unfoldable pub is_truth : List ℕ → Bool
is_truth text =
    is_word (codes "true") text
    || (is_word (codes "t") text
    || (is_word (codes "yes") text
    || (is_word (codes "y") text || (is_word (codes "on") text || is_word (codes "1") text))))

-- a word for false
unfoldable pub is_untruth : List ℕ → Bool
is_untruth text =
    is_word (codes "false") text
    || (is_word (codes "f") text
    || (is_word (codes "no") text
    || (is_word (codes "n") text || (is_word (codes "off") text || is_word (codes "0") text))))

-- the flag that a word stands for
abbrev pub word_flag : List ℕ → Option Bool
word_flag text = if is_truth text then Some true else if is_untruth text then Some false else None

-- the flag that a whole number stands for
abbrev pub whole_flag : Whole → Option Bool
whole_flag (Fits n) =
    if int_eq n (pos 0) then Some false else if int_eq n (pos 1) then Some true else None
whole_flag TooBig = None
whole_flag Fraction = None

-- a flag that is read from a number or a text
abbrev pub read_flag : Option Bool → Graded Bool
read_flag (Some b) = Ok (b, Lax)
read_flag None = Err kind.BoolParsing

-- by one level of the tree; the strict column takes flags alone
abbrev pub flag_at : Bool → Tree-F Tree → Graded Bool
flag_at strict (Tree-F.Bool b) = Ok (b, Exact)
flag_at strict (Tree-F.Num lexeme) =
    by_column strict (read_flag (whole_flag (whole_of lexeme))) (Err kind.BoolType)
flag_at strict (Tree-F.Str text) = by_column strict (read_flag (word_flag text)) (Err kind.BoolType)
flag_at strict Tree-F.Null = Err kind.BoolType
flag_at strict (Tree-F.Array ts) = Err kind.BoolType
flag_at strict (Tree-F.Object ms) = Err kind.BoolType

-- of a tree
unfoldable pub flag_of : Bool → Tree → Graded Bool
flag_of strict tree = flag_at strict (out-Tree tree)
