-- Equality of numbers is an equivalence, and that of whole numbers is equality.
use Rattle.std.proofs.Common.{◌≡◌, ℤ, Bool, sym, ap, ◌∙◌}
use Rattle.std.specs.Cmp.{IsEquivalence}
use Rattle.std.specs.Ordering.{is_eq, int_cmp}
use Rattle.std.proofs.lemmas.Cmp.{eq_by_cmp_equiv}
use Rattle.pv_number.specs.ExactNumber.{Number}
use Rattle.pv_number.specs.NumberEquality.{int_number}
use Rattle.pv_number.proofs.NumberLaws.{cmp_total, ints_cmp}
use Rattle.pv_equality.specs.Equality.{same_number}

pub numbers_equiv : IsEquivalence same_number
numbers_equiv = eq_by_cmp_equiv cmp_total

pub turned : (r : Bool) (a b : Number) → r ≡ same_number a b → r ≡ same_number b a
turned r a b e = e ∙ numbers_equiv.symm a b

pub ints_same : (r : Bool) (m n : ℤ) → r ≡ is_eq (int_cmp m n) → r ≡ same_number (int_number m) (int_number n)
ints_same r m n e = e ∙ sym (ap is_eq (ints_cmp m n))
