use Rattle.pv_number.proofs.NumberLaws.{cmp_total, equal_tells, same_itself, same_back, same_on, ints_cmp, value_tells}
use Rattle.pv_number.proofs.laws.numbers_are_ordered.Goals as goal

pub returns : goal.returns
returns c = record { total = cmp_total; equal = equal_tells; reflexive = same_itself; symmetric = same_back; transitive = same_on; whole = ints_cmp; value = value_tells }
