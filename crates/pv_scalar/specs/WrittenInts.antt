-- Numbers that are written as ints.
use Rattle.std.specs.Prelude.{◌≡◌, ℕ, List, ℤ, IsTrue}
use Rattle.pv_number.specs.ExactNumber.{HasValue, is_integer, number}
use Rattle.pv_tree.specs.declared.Tree.{Tree, out-Tree}
use Rattle.pv_tree.specs.declared.Tree.TheOpen.{Tree-F}
use Rattle.pv_tree.specs.declared.Value.{Value}
use Rattle.pv_tree.specs.declared.Value.TheVariants as value

-- the int has no point and no exponent, and its value is that of the number
pub record IsWrittenInt (t : Tree) (v : Value) : Type 0 where
  pub lexeme : List ℕ
  pub int : ℤ
  pub is_number : out-Tree t ≡ Tree-F.Num lexeme
  pub is_integer : IsTrue (is_integer lexeme)
  pub has_value : HasValue (number lexeme) int
  pub is_int : v ≡ value.Int int
