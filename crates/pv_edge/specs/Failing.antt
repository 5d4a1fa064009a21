-- Calls that are made to fail, by their numbers.
use Rattle.std.specs.Prelude.{ℕ, ◌==◌, ◌+◌, ◌-◌, ◌^◌, Bool, List, min}
use Rattle.std.specs.List.{list_any}

-- the call of this number is one of them
abbrev pub is_due : List ℕ → ℕ → Bool
is_due failing call = list_any (λ number. number == call) failing

-- the count of faults after one more, which stops at its last value
abbrev pub one_more : ℕ → ℕ
one_more faults = min (faults + 1) (2 ^ 64 - 1)
