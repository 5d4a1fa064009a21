-- Numbers that are written as integers of 128 bits.
use Rattle.std.proofs.Common.{◌≡◌, ℕ, Bool, true, false, List, ℤ, Option, None, Some, IfSome, Ok, refl, ap, sym, ◌∙◌}
use Rattle.std.proofs.lemmas.Option.{none-some}
use Rattle.pv_number.specs.ExactNumber.{is_integer}
use Rattle.pv_number.specs.WrittenIntegers.{integer}
use Rattle.pv_number.specs.declared.Whole.TheVariants.{Fits}
use Rattle.pv_number.proofs.WrittenIntegers.{integer_whole, unwritten}
use Rattle.pv_numeric.specs.WholeNumbers.{whole_of}
use Rattle.pv_numeric.proofs.Wholes.{whole_of_is_whole}
use Rattle.pv_fault.specs.declared.Grade.TheVariants.{Exact}
use Rattle.pv_tree.specs.declared.Tree.{Tree, out-Tree, out-roll-Tree}
use Rattle.pv_tree.specs.declared.Tree.TheOpen.{Tree-F}
use Rattle.pv_tree.specs.declared.Tree.TheVariants as tree
use Rattle.pv_scalar.specs.Integers.{int_at, int_of, number_int, whole_int}

written : (lexeme : List ℕ) (n : ℤ) (b : Bool) → is_integer lexeme ≡ b → integer lexeme ≡ Some n → b ≡ true
written lexeme n true e here = refl
written lexeme n false e here = absurd (none-some n (unwritten lexeme e ∙ here))

-- one is an int by itself
pub written_int : (strict : Bool) (lexeme : List ℕ) (n : ℤ) → integer lexeme ≡ Some n → Ok (n, Exact) ≡ number_int strict lexeme
written_int strict lexeme n here =
    let all : is_integer lexeme ≡ true = written lexeme n (is_integer lexeme) refl here in
    let whole : Fits n ≡ whole_of lexeme = whole_of_is_whole lexeme (Fits n) (integer_whole lexeme n here) in
    ap (whole_int Exact) whole ∙ sym (rw all refl)

num_opened : (lexeme : List ℕ) → out-Tree (tree.Num lexeme) ≡ Tree-F.Num lexeme
num_opened lexeme = ap out-Tree (sym (tree.rolls-Num lexeme)) ∙ out-roll-Tree (Tree-F.Num lexeme)

pub plain_int : (t : Tree) (lexeme : List ℕ) (found : Option ℤ) → t ≡ tree.Num lexeme → found ≡ integer lexeme → IfSome found (λ n. (strict : Bool) → Ok (n, Exact) ≡ int_of strict t)
unfolding int_of
plain_int t lexeme None is e = tt
plain_int t lexeme (Some n) is e = λ strict. written_int strict lexeme n (sym e) ∙ ap (int_at strict) (sym (ap out-Tree is ∙ num_opened lexeme))
