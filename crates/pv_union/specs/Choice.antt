-- Which of its members a smart union takes, by what came of all of them.
use Rattle.std.specs.Prelude.{ℕ, ◌+◌, Bool, true, false, not, ◌&&◌, ◌||◌, nat_lt, nat_eq, if◌then◌else◌, List, [], ◌∷◌, Option, None, Some}
use Rattle.std.specs.Option.{option_or}
use Rattle.pv_fault.specs.declared.Good.{Good}
use Rattle.pv_fault.specs.declared.Grade.{Grade}
use Rattle.pv_fault.specs.declared.Grade.TheVariants.{Lax, Strict, Exact}
use Rattle.pv_union.specs.declared.score.Score.{Score}
use Rattle.pv_union.specs.declared.score.Score.TheVariants as score

-- the score of what was found
abbrev pub score_found : Option Good → Score
score_found None = score.Failed
score_found (Some g) = score.Good g.grade g.fields

-- whether a member succeeded exactly and has no count of fields: then no other member can win
abbrev pub is_sure : Score → Bool
is_sure (score.Good Exact None) = true
is_sure s = false

-- the first such, where the first of these has the place i
abbrev pub first_sure : ℕ → List Score → Option ℕ
first_sure i [] = None
first_sure i (s ∷ ss) = if is_sure s then Some i else first_sure (i + 1) ss

-- whether both counts are there, and the second is larger
abbrev pub has_more : Option ℕ → Option ℕ → Bool
has_more (Some n) (Some m) = nat_lt n m
has_more n m = false

-- whether both counts are there, and they differ
abbrev pub have_other : Option ℕ → Option ℕ → Bool
have_other (Some n) (Some m) = not (nat_eq n m)
have_other n m = false

-- whether the second grade is better
abbrev pub is_higher : Grade → Grade → Bool
is_higher Lax Lax = false
is_higher Lax Strict = true
is_higher Lax Exact = true
is_higher Strict Lax = false
is_higher Strict Strict = false
is_higher Strict Exact = true
is_higher Exact g = false

-- Whether a later member takes the place of the best one so far: it succeeded, and nothing did
-- before, or it has a larger count, or, unless the counts differ, a better grade.
abbrev pub is_better : Score → Score → Bool
is_better best score.Failed = false
is_better score.Failed (score.Good h m) = true
is_better (score.Good g n) (score.Good h m) =
    has_more n m || (not (have_other n m) && is_higher g h)

-- The place of the best, by the best so far, its place, and the members behind it, of which the
-- first has the place i.
abbrev pub best_of : Score → Option ℕ → ℕ → List Score → Option ℕ
best_of best place i [] = place
best_of best place i (s ∷ ss) =
    if is_better best s then best_of s (Some i) (i + 1) ss else best_of best place (i + 1) ss

-- the place of the member that is taken: the first that is sure, else the best from left to right
unfoldable pub choice : List Score → Option ℕ
choice ss = option_or (first_sure 0 ss) (best_of score.Failed None 0 ss)
