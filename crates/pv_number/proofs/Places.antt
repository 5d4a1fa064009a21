-- The place of one byte, as that of the first of two.
use Rattle.std.proofs.Common.{◌≡◌, ℕ, Bool, true, false, ◌||◌, ◌==◌, List, refl, ap}
use Rattle.std.specs.List.{position_or_len}
use Rattle.pv_number.specs.ExactNumber.{is_point}

either : (b : Bool) → (b || b) ≡ b
either true = refl
either false = refl

pub point_only : (xs : List ℕ) → position_or_len (λ x. x == 46 || x == 46) xs ≡ position_or_len is_point xs
point_only xs = ap (λ p. position_or_len p xs) (λ i x. either (x == 46) i)
