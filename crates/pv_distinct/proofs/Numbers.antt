-- The order of numbers, turned, and at whole numbers.
use Rattle.std.proofs.Common.{◌≡◌, ℤ, sym, ap, ◌∙◌}
use Rattle.std.specs.Ordering.{int_cmp, ordering_reverse}
use Rattle.std.specs.declared.cmp.Ordering.{Ordering}
use Rattle.pv_number.specs.ExactNumber.{Number}
use Rattle.pv_number.specs.NumberEquality.{int_number, number_cmp}
use Rattle.pv_number.proofs.NumberLaws.{cmp_total, ints_cmp}

pub ints_compared : (r : Ordering) (m n : ℤ) → r ≡ int_cmp m n → r ≡ number_cmp (int_number m) (int_number n)
ints_compared r m n e = e ∙ sym (ints_cmp m n)

pub reversed : (q r : Ordering) (a b : Number) → q ≡ number_cmp a b → r ≡ ordering_reverse q → r ≡ number_cmp b a
reversed q r a b e f = f ∙ ap ordering_reverse e ∙ sym (cmp_total.antisymm b a)
