-- The plain value of a tree: a whole number of 128 bits that is written without a point and an
-- exponent is an int, and any other number keeps its lexeme.
use Rattle.std.specs.Prelude.{ℕ, List, map, ℤ, Option, Some, None}
use Rattle.pv_number.specs.WrittenIntegers.{integer}
use Rattle.pv_tree.specs.declared.tree.Tree.{Tree, fold-Tree}
use Rattle.pv_tree.specs.declared.tree.Tree.TheOpen.{Tree-F}
use Rattle.pv_tree.specs.declared.value.Value.{Value}
use Rattle.pv_tree.specs.declared.value.Value.TheVariants as value

-- of a spelling, by the integer that it is
abbrev pub number_by : List ℕ → Option ℤ → Value
number_by lexeme (Some n) = value.Int n
number_by lexeme None = value.Lexeme lexeme

-- of a spelling
abbrev pub plain_number : List ℕ → Value
plain_number lexeme = number_by lexeme (integer lexeme)

-- a name as a key
abbrev pub member_by : List ℕ × Value → Value × Value
member_by m = (value.Str m.0, m.1)

-- one level, with the plain value of each tree inside in its place
abbrev pub plain_step : Tree-F Value → Value
plain_step Tree-F.Null = value.None
plain_step (Tree-F.Bool b) = value.Bool b
plain_step (Tree-F.Num lexeme) = plain_number lexeme
plain_step (Tree-F.Str text) = value.Str text
plain_step (Tree-F.Array items) = value.List items
plain_step (Tree-F.Object d) = value.Dict (map member_by d.members)

-- of a tree
abbrev pub plain : Tree → Value
plain = fold-Tree Value plain_step

-- a member with a text as its key
abbrev pub plain_member : List ℕ × Tree → Value × Value
plain_member m = (value.Str m.0, plain m.1)
