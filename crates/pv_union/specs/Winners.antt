-- What the member is that a smart union takes.
use Rattle.std.specs.Prelude.{◌≡◌, ℕ, ◌<◌, ◌≤◌, ◌⊎◌, true, false, List, slice_get, None, Some}
use Rattle.std.specs.List.{AllByRecursion}
use Rattle.pv_fault.specs.declared.Grade.{Grade}
use Rattle.pv_fault.specs.declared.Grade.TheVariants.{Exact}
use Rattle.pv_union.specs.Choice.{is_higher}
use Rattle.pv_union.specs.declared.score.Score.{Score}
use Rattle.pv_union.specs.declared.score.Score.TheVariants as score

-- a member failed
abbrev pub IsFailure : Score → Type 0
IsFailure score.Failed = Unit {0}
IsFailure (score.Good g n) = ⊥

-- a member failed, or has a count
abbrev pub IsCounted : Score → Type 0
IsCounted score.Failed = Unit {0}
IsCounted (score.Good g None) = ⊥
IsCounted (score.Good g (Some n)) = Unit {0}

-- a member failed, or has no count
abbrev pub IsUncounted : Score → Type 0
IsUncounted score.Failed = Unit {0}
IsUncounted (score.Good g None) = Unit {0}
IsUncounted (score.Good g (Some n)) = ⊥

-- of all members
abbrev pub AllFailed : List Score → Type 0
AllFailed ss = AllByRecursion IsFailure ss

-- each success has a count
abbrev pub AllCounted : List Score → Type 0
AllCounted ss = AllByRecursion IsCounted ss

-- no success has a count
abbrev pub AllUncounted : List Score → Type 0
AllUncounted ss = AllByRecursion IsUncounted ss

-- this score stands at this place
abbrev pub StandsAt : List Score → ℕ → Score → Type 0
StandsAt ss i s = slice_get ss i ≡ Some s

-- the first of the exact successes without a count
pub record IsFirstSure (ss : List Score) (i : ℕ) : Type 0 where
  pub at : StandsAt ss i (score.Good Exact None)
  pub first : (j : ℕ) → j < i → ¬ StandsAt ss j (score.Good Exact None)

-- The first of the successes with the largest count and, among these, the best grade: no success
-- has a larger count, none with the same count has a better grade, and each before it has a smaller
-- count or a worse grade.
pub record IsMostCounted (ss : List Score) (i : ℕ) : Type 0 where
  pub grade : Grade
  pub count : ℕ
  pub at : StandsAt ss i (score.Good grade (Some count))
  pub most : (j : ℕ) (h : Grade) (m : ℕ) → StandsAt ss j (score.Good h (Some m)) → m ≤ count
  pub best : (j : ℕ) (h : Grade) → StandsAt ss j (score.Good h (Some count))
      → is_higher grade h ≡ false
  pub first : (j : ℕ) (h : Grade) (m : ℕ) → j < i → StandsAt ss j (score.Good h (Some m))
      → (m < count) ⊎ (is_higher h grade ≡ true)

-- The first of the successes with the best grade: none has a better one, and each before it has a
-- worse one.
pub record IsBestGraded (ss : List Score) (i : ℕ) : Type 0 where
  pub grade : Grade
  pub at : StandsAt ss i (score.Good grade None)
  pub best : (j : ℕ) (h : Grade) → StandsAt ss j (score.Good h None) → is_higher grade h ≡ false
  pub first : (j : ℕ) (h : Grade) → j < i → StandsAt ss j (score.Good h None)
      → is_higher h grade ≡ true
