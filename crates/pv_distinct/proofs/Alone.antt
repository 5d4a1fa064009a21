-- Two ints and two texts compare as what they are.
use Rattle.std.proofs.Common.{◌≡◌, ℕ, ℤ, List, refl, ap, ◌∙◌}
use Rattle.std.specs.Prelude.{pos}
use Rattle.std.specs.declared.cmp.Ordering.{Ordering}
use Rattle.std.specs.declared.cmp.Ordering.TheVariants.{Less, Equal, Greater}
use Rattle.std.specs.Ordering.{int_cmp, ordering_then}
use Rattle.pv_number.specs.NumberEquality.{int_number, number_cmp}
use Rattle.pv_number.proofs.NumberLaws.{ints_cmp}
use Rattle.pv_distinct.specs.declared.token.Token.TheVariants as token
use Rattle.pv_distinct.specs.Tokens.{bytes_cmp, token_cmp}

-- of ordered parts the first alone decides, where the others are equal
pub then_equal : (o : Ordering) → ordering_then o Equal ≡ o
then_equal Less = refl
then_equal Equal = refl
then_equal Greater = refl

pub int_tokens : (m n : ℤ) → token_cmp (token.Int m) (token.Int n) ≡ int_cmp m n
unfolding token_cmp
int_tokens m n = then_equal (number_cmp (int_number m) (int_number n)) ∙ ints_cmp m n

pub text_tokens : (t u : List ℕ) → token_cmp (token.Str t) (token.Str u) ≡ bytes_cmp t u
unfolding token_cmp
text_tokens t u = ap (λ o. ordering_then o (ordering_then (bytes_cmp t u) Equal)) (ints_cmp (pos 0) (pos 0)) ∙ then_equal (bytes_cmp t u)
