-- Sums of counts that may be absent: of those that are there, stopped at 2^64 - 1, and absent
-- where none is there.
use Rattle.std.specs.Prelude.{ℕ, ◌-◌, ◌^◌, min, sum, Option, None, Some, List, [], ◌∷◌}

-- the last value of a count
abbrev pub last_count : ℕ
last_count = 2 ^ 64 - 1

-- the counts that are there
abbrev pub present : List (Option ℕ) → List ℕ
present [] = []
present (None ∷ cs) = present cs
present (Some n ∷ cs) = n ∷ present cs

-- the sum of counts, where there is one, stopped at the last value
abbrev pub stopped_sum : List ℕ → Option ℕ
stopped_sum [] = None
stopped_sum (n ∷ ns) = Some (min (sum (n ∷ ns)) last_count)

-- the sum of counts that may be absent
abbrev pub sum_of : List (Option ℕ) → Option ℕ
sum_of cs = stopped_sum (present cs)

-- of two
abbrev pub sum_of_two : Option ℕ → Option ℕ → Option ℕ
sum_of_two a b = sum_of (a ∷ b ∷ [])
