-- Multiples of whole numbers. Only 0 is a multiple of 0.
use Rattle.std.specs.Prelude.{◌≡◌, ◌==◌, ◌%◌, Bool, if◌then◌else◌, ℤ, ◌*ℤ◌, unsigned_abs}

-- some whole number times m
abbrev pub IsMultiple : ℤ → ℤ → Type 0
IsMultiple n m = (k : ℤ) × (n ≡ k *ℤ m)

-- the same by the remainder
unfoldable pub is_multiple : ℤ → ℤ → Bool
is_multiple n m =
    if unsigned_abs m == 0 then unsigned_abs n == 0 else unsigned_abs n % unsigned_abs m == 0
