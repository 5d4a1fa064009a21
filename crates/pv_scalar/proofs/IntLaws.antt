-- Where ints come from.
use Rattle.std.proofs.Common.{◌≡◌, ℕ, Bool, true, false, cond, List, ℤ, Option, None, Some, Ok, Err, refl, sym, ap, ◌∙◌, subst}
use Rattle.std.specs.Str.{trim}
use Rattle.pv_number.specs.ExactNumber.{HasValue, IsWhole, is_integer, number}
use Rattle.pv_number.specs.WrittenIntegers.{is_i128}
use Rattle.pv_number.specs.declared.Whole.{Whole}
use Rattle.pv_number.specs.declared.Whole.TheVariants.{Fits, TooBig, Fraction}
use Rattle.pv_tree.specs.declared.Tree.{Tree, out-Tree}
use Rattle.pv_tree.specs.declared.Tree.TheOpen.{Tree-F}
use Rattle.pv_tree.specs.Parts.{text_at}
use Rattle.pv_tree.specs.declared.Value.{Value}
use Rattle.pv_tree.specs.declared.Value.TheVariants as value
use Rattle.pv_rules.specs.declared.IntRule.{IntRule}
use Rattle.pv_rules.specs.declared.ScalarRule.TheVariants as rule
use Rattle.pv_rules.specs.declared.Settings.{Settings}
use Rattle.pv_fault.specs.declared.Grade.{Grade}
use Rattle.pv_fault.specs.declared.Grade.TheVariants.{Lax, Exact}
use Rattle.pv_fault.specs.declared.Kind.{Kind}
use Rattle.pv_fault.specs.declared.Kind.TheVariants as kind
use Rattle.pv_fault.specs.declared.Outcome.TheVariants.{Good}
use Rattle.pv_numeric.specs.WholeNumbers.{whole_of, whole_by}
use Rattle.pv_numeric.specs.NumericStrings.{numeric_string}
use Rattle.pv_numeric.specs.Numerals.{IsNumeral}
use Rattle.pv_numeric.proofs.Wholes.{whole_of_answers}
use Rattle.pv_numeric.proofs.Numerals.{numeral_in}
use Rattle.pv_scalar.specs.Tests.{Graded, made_into, with_fault, tested, outcome_of}
use Rattle.pv_scalar.specs.Integers.{whole_int, text_int, int_at, int_of, int_fault}
use Rattle.pv_scalar.specs.Texts.{text_in}
use Rattle.pv_scalar.specs.Scalars.{int_answer, answer_of, scalar_of}
use Rattle.pv_scalar.specs.WrittenInts.{IsWrittenInt}

good_answer : (t : Tree) (a : Graded Value) (v : Value) (g : Grade) (fields : Option ℕ) → outcome_of t a ≡ Good v g fields → a ≡ Ok (v, g)
good_answer t (Ok (w, h)) v g fields e = let same : w ≡ v = cc in let alike : h ≡ g = cc in cc
good_answer t (Err kind) v g fields e = absurd cc

made_ok : (a : Graded ℤ) (v : Value) (g : Grade) → made_into value.Int a ≡ Ok (v, g) → (n : ℤ) × (a ≡ Ok (n, g)) × (v ≡ value.Int n)
made_ok (Ok (n, h)) v g e =
    let both : (value.Int n, h) ≡ (v, g) = cc in
    (n, ap (λ (k : Grade). Ok (n, k)) (ap (λ (p : Value × Grade). p.1) both), sym (ap (λ (p : Value × Grade). p.0) both))
made_ok (Err kind) v g e = absurd cc

tested_ok : (f : ℤ → Option Kind) (a : Graded ℤ) (x : ℤ × Grade) → tested f a ≡ Ok x → a ≡ Ok x
tested_ok f (Ok y) x e = by (f y.0) (Ok y) refl e
  where
    by : (o : Option Kind) (a : Graded ℤ) → a ≡ Ok y → with_fault o y ≡ Ok x → a ≡ Ok x
    by None a is e = is ∙ e
    by (Some kind) a is e = absurd cc
tested_ok f (Err kind) x e = absurd cc

int_behind : (r : IntRule) (s : Settings) (strict : Bool) (t : Tree) (v : Value) (g : Grade) (fields : Option ℕ) → scalar_of (rule.Int r) s strict t ≡ Good v g fields → (n : ℤ) × (int_at strict (out-Tree t) ≡ Ok (n, g)) × (v ≡ value.Int n)
unfolding scalar_of answer_of int_answer int_of
int_behind r s strict t v g fields e =
    let made = made_ok (tested (int_fault r) (int_at strict (out-Tree t))) v g (good_answer t (made_into value.Int (tested (int_fault r) (int_at strict (out-Tree t)))) v g fields e) in
    (made.0, tested_ok (int_fault r) (int_at strict (out-Tree t)) (made.0, g) made.1, made.2)

fits_of : (grade : Grade) (w : Whole) (n : ℤ) (g : Grade) → whole_int grade w ≡ Ok (n, g) → (w ≡ Fits n) × (grade ≡ g)
fits_of grade (Fits m) n g e =
    let both : (m, grade) ≡ (n, g) = cc in
    (ap Fits (ap (λ (p : ℤ × Grade). p.0) both), ap (λ (p : ℤ × Grade). p.1) both)
fits_of grade TooBig n g e = absurd cc
fits_of grade Fraction n g e = absurd cc

value_of_whole : (lexeme : List ℕ) (n : ℤ) → whole_of lexeme ≡ Fits n → HasValue (number lexeme) n
value_of_whole lexeme n e = (subst (IsWhole (number lexeme)) e (whole_of_answers lexeme)).0

abbrev IsWrittenAt : Tree-F Tree → ℤ → Type 0
IsWrittenAt o n = (lexeme : List ℕ) × (o ≡ Tree-F.Num lexeme) × (is_integer lexeme ≡ true) × HasValue (number lexeme) n

written_at : (o : Tree-F Tree) (n : ℤ) (g : Grade) → int_at true o ≡ Ok (n, g) → IsWrittenAt o n
written_at (Tree-F.Num lexeme) n g e = by (is_integer lexeme) refl e
  where
    by : (x : Bool) → is_integer lexeme ≡ x → cond x (whole_int Exact (whole_of lexeme)) (Err kind.IntType) ≡ Ok (n, g) → IsWrittenAt (Tree-F.Num lexeme) n
    by true is e = (lexeme, refl, is, value_of_whole lexeme n (fits_of Exact (whole_of lexeme) n g e).0)
    by false is e = absurd cc
written_at (Tree-F.Bool b) n g e = absurd cc
written_at (Tree-F.Str text) n g e = absurd cc
written_at Tree-F.Null n g e = absurd cc
written_at (Tree-F.Array ts) n g e = absurd cc
written_at (Tree-F.Object ms) n g e = absurd cc

pub strict_int : (r : IntRule) (s : Settings) (t : Tree) (v : Value) (g : Grade) (fields : Option ℕ) → scalar_of (rule.Int r) s true t ≡ Good v g fields → IsWrittenInt t v
strict_int r s t v g fields e =
    let found = int_behind r s true t v g fields e in
    let at = written_at (out-Tree t) found.0 g found.1 in
    record { lexeme = at.0; int = found.0; is_number = at.1; is_integer = at.2; has_value = at.3; is_int = found.2 }

-- ---- ints in texts

abbrev IsNumeralOf : List ℕ → ℤ → Grade → Type 0
IsNumeralOf text n g = IsNumeral (trim text) n × (g ≡ Lax)

by_whole : (text : List ℕ) (k n : ℤ) (g : Grade) → IsNumeral (trim text) k → Fits n ≡ whole_by k → Lax ≡ g → IsNumeralOf text n g
by_whole text k n g is e lax = by (is_i128 k) e
  where
    by : (x : Bool) → Fits n ≡ cond x (Fits k) TooBig → IsNumeralOf text n g
    by true e = let same : k ≡ n = cc in (subst (IsNumeral (trim text)) same is, sym lax)
    by false e = absurd cc

text_number : (text : List ℕ) (n : ℤ) (g : Grade) → text_int (numeric_string text) ≡ Ok (n, g) → IsNumeralOf text n g
text_number text n g e = by (numeric_string text) refl e
  where
    by : (o : Option Whole) → numeric_string text ≡ o → text_int o ≡ Ok (n, g) → IsNumeralOf text n g
    by (Some w) is e =
        let fits = fits_of Lax w n g e in
        let found = numeral_in text w is in
        by_whole text found.0 n g found.1 (sym fits.0 ∙ found.2) fits.1
    by None is e = absurd cc

numeral_at : (o : Tree-F Tree) (text : List ℕ) (n : ℤ) (g : Grade) → text_at o ≡ Some text → int_at false o ≡ Ok (n, g) → IsNumeralOf text n g
numeral_at (Tree-F.Str given) text n g is e = let same : given ≡ text = cc in subst (λ t. IsNumeralOf t n g) same (text_number given n g e)
numeral_at (Tree-F.Num lexeme) text n g is e = absurd cc
numeral_at (Tree-F.Bool b) text n g is e = absurd cc
numeral_at Tree-F.Null text n g is e = absurd cc
numeral_at (Tree-F.Array ts) text n g is e = absurd cc
numeral_at (Tree-F.Object ms) text n g is e = absurd cc

pub text_numeral : (r : IntRule) (s : Settings) (t : Tree) (text : List ℕ) (v : Value) (g : Grade) (fields : Option ℕ) → text_in t ≡ Some text → scalar_of (rule.Int r) s false t ≡ Good v g fields →
    (n : ℤ) × IsNumeral (trim text) n × (v ≡ value.Int n) × (g ≡ Lax)
text_numeral r s t text v g fields is e =
    let found = int_behind r s false t v g fields e in
    let at = numeral_at (out-Tree t) text found.0 g is found.1 in
    (found.0, at.0, found.2, at.1)
