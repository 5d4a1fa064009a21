-- A union answers by one of its choices, and fails where all of them do.
use Rattle.std.proofs.Common.{◌≡◌, ◌⊎◌, inl, inr, ℕ, zero, suc, ◌+◌, Bool, true, false, if◌then◌else◌, List, [], ◌∷◌, map, Option, None, Some, slice_get, refl, sym, ◌∙◌, subst, arith}
use Rattle.std.specs.List.{AllByRecursion}
use Rattle.std.specs.Option.{option_or}
use Rattle.pv_tree.specs.declared.Tree.{Tree}
use Rattle.pv_fault.specs.declared.LineError.{LineError}
use Rattle.pv_fault.specs.declared.Outcome.{Outcome}
use Rattle.pv_fault.specs.declared.Outcome.TheVariants.{Good, Bad}
use Rattle.pv_union.specs.declared.Score.{Score}
use Rattle.pv_union.specs.declared.Score.TheVariants as score
use Rattle.pv_union.specs.Choice.{is_sure, is_better, first_sure, best_of, choice}
use Rattle.pv_union.specs.Unions.{score_of, failures, first_success, place_by, or_failures, taken, union_of}
use Rattle.pv_walk.specs.Rules.{Child}
use Rattle.pv_walk.specs.Unions.{each_given, union}
use Rattle.pv_laws.specs.Outcomes.{Succeeds, Fails, IsGivenByOne}

-- what stands at a place is what a child gives
given_at : (t : Tree) (children : List Child) (i : ℕ) (o : Outcome) → slice_get (each_given children t) i ≡ Some o → IsGivenByOne children t o
given_at t [] i o h = cc
given_at t (c ∷ cs) zero o h = (c, (zero, omega arith, refl), cc)
given_at t (c ∷ cs) (suc i) o h = let d = given_at t cs i o h in (d.0, (suc d.1.0, omega (arith, d.1.1), d.1.2), d.2)

succeeds_at : (t : Tree) (children : List Child) (es : List LineError) (i : ℕ) (x : Option Outcome) → slice_get (each_given children t) i ≡ x
    → Succeeds (or_failures es x) → IsGivenByOne children t (or_failures es x)
succeeds_at t children es i None h s = absurd s
succeeds_at t children es i (Some o) h s = given_at t children i o h

taken_by : (t : Tree) (labels : List (List ℕ)) (children : List Child) (place : Option ℕ) → Succeeds (taken labels (each_given children t) place)
    → IsGivenByOne children t (taken labels (each_given children t) place)
taken_by t labels children None s = absurd s
taken_by t labels children (Some i) s = succeeds_at t children (failures labels (each_given children t)) i (slice_get (each_given children t) i) refl s

pub succeeds_by_one : (left_to_right : Bool) (labels : List (List ℕ)) (children : List Child) (t : Tree) → Succeeds (union left_to_right labels children t)
    → IsGivenByOne children t (union left_to_right labels children t)
unfolding union union_of
succeeds_by_one ltr labels [] t s = absurd s
succeeds_by_one ltr labels (c ∷ []) t s = (c, (zero, omega arith, refl), refl)
succeeds_by_one ltr labels (c ∷ d ∷ cs) t s = taken_by t labels (c ∷ d ∷ cs) (place_by ltr (each_given (c ∷ d ∷ cs) t)) s

-- there is one, and this holds of it
abbrev Holds : {X : Type 0} → (X → Type 0) → Option X → Type 0
Holds P None = ⊥
Holds P (Some x) = P x

-- the place is that of an element of which this holds, where the first has the place i
abbrev Within : {X : Type 0} → (X → Type 0) → ℕ → List X → ℕ → Type 0
Within P i xs p = (j : ℕ) × (p ≡ i + j) × Holds P (slice_get xs j)

within_here : {X : Type 0} (P : X → Type 0) (i : ℕ) (x : X) (xs : List X) (p : ℕ) → P x → (let o : Option ℕ = Some i in o) ≡ Some p → Within P i (x ∷ xs) p
within_here P i x xs p is e = let same : i ≡ p = cc in (zero, omega (arith, same), is)

within_rest : {X : Type 0} (P : X → Type 0) (i : ℕ) (x : X) (xs : List X) (p : ℕ) → Within P (i + 1) xs p → Within P i (x ∷ xs) p
within_rest P i x xs p d = (suc d.0, omega (arith, d.1), d.2)

-- from left to right
first_within : (i : ℕ) (os : List Outcome) (p : ℕ) → first_success i os ≡ Some p → Within Succeeds i os p
first_within i [] p h = cc
first_within i (Good v g n ∷ os) p h = within_here Succeeds i (Good v g n) os p tt h
first_within i (Bad es ∷ os) p h = within_rest Succeeds i (Bad es) os p (first_within (i + 1) os p h)

none_first : (i : ℕ) (os : List Outcome) → first_success i os ≡ None → AllByRecursion Fails os
none_first i [] h = tt
none_first i (Good v g n ∷ os) h = cc
none_first i (Bad es ∷ os) h = (tt, none_first (i + 1) os h)

-- a score of a success
abbrev Wins : Score → Type 0
Wins score.Failed = ⊥
Wins (score.Good g n) = Unit {0}

-- the score of a failure
abbrev Loses : Score → Type 0
Loses score.Failed = Unit {0}
Loses (score.Good g n) = ⊥

sure_wins : (s : Score) → is_sure s ≡ true → Wins s
sure_wins score.Failed h = cc
sure_wins (score.Good g n) h = tt

better_wins : (best s : Score) → is_better best s ≡ true → Wins s
better_wins best score.Failed h = cc
better_wins best (score.Good g n) h = tt

sure_by : (b : Bool) (i : ℕ) (s : Score) (ss : List Score) (p : ℕ) → is_sure s ≡ b → (first_sure (i + 1) ss ≡ Some p → Within Wins (i + 1) ss p)
    → (if b then Some i else first_sure (i + 1) ss) ≡ Some p → Within Wins i (s ∷ ss) p
sure_by true i s ss p e rest h = within_here Wins i s ss p (sure_wins s e) h
sure_by false i s ss p e rest h = within_rest Wins i s ss p (rest h)

sure_within : (i : ℕ) (ss : List Score) (p : ℕ) → first_sure i ss ≡ Some p → Within Wins i ss p
sure_within i [] p h = cc
sure_within i (s ∷ ss) p h = sure_by (is_sure s) i s ss p refl (sure_within (i + 1) ss p) h

-- the best, or the one before these
abbrev BestWithin : Option ℕ → ℕ → List Score → ℕ → Type 0
BestWithin place i ss p = (place ≡ Some p) ⊎ Within Wins i ss p

best_taken : (i : ℕ) (s : Score) (ss : List Score) (p : ℕ) → Wins s → BestWithin (Some i) (i + 1) ss p → Within Wins i (s ∷ ss) p
best_taken i s ss p is (inl e) = within_here Wins i s ss p is e
best_taken i s ss p is (inr d) = within_rest Wins i s ss p d

best_left : (place : Option ℕ) (i : ℕ) (s : Score) (ss : List Score) (p : ℕ) → BestWithin place (i + 1) ss p → BestWithin place i (s ∷ ss) p
best_left place i s ss p (inl e) = inl e
best_left place i s ss p (inr d) = inr (within_rest Wins i s ss p d)

best_by : (b : Bool) (best : Score) (place : Option ℕ) (i : ℕ) (s : Score) (ss : List Score) (p : ℕ) → is_better best s ≡ b
    → (best_of s (Some i) (i + 1) ss ≡ Some p → BestWithin (Some i) (i + 1) ss p) → (best_of best place (i + 1) ss ≡ Some p → BestWithin place (i + 1) ss p)
    → (if b then best_of s (Some i) (i + 1) ss else best_of best place (i + 1) ss) ≡ Some p → BestWithin place i (s ∷ ss) p
best_by true best place i s ss p e taken left h = inr (best_taken i s ss p (better_wins best s e) (taken h))
best_by false best place i s ss p e taken left h = best_left place i s ss p (left h)

best_within : (best : Score) (place : Option ℕ) (i : ℕ) (ss : List Score) (p : ℕ) → best_of best place i ss ≡ Some p → BestWithin place i ss p
best_within best place i [] p h = inl h
best_within best place i (s ∷ ss) p h =
    best_by (is_better best s) best place i s ss p refl (best_within s (Some i) (i + 1) ss p) (best_within best place (i + 1) ss p) h

-- once there is a best, there stays one
stays_by : (b : Bool) (best : Score) (q i : ℕ) (s : Score) (ss : List Score) → (best_of s (Some i) (i + 1) ss ≡ None → ⊥) → (best_of best (Some q) (i + 1) ss ≡ None → ⊥)
    → (if b then best_of s (Some i) (i + 1) ss else best_of best (Some q) (i + 1) ss) ≡ None → ⊥
stays_by true best q i s ss taken left h = taken h
stays_by false best q i s ss taken left h = left h

stays : (best : Score) (q i : ℕ) (ss : List Score) → best_of best (Some q) i ss ≡ None → ⊥
stays best q i [] h = cc
stays best q i (s ∷ ss) h = stays_by (is_better best s) best q i s ss (stays s i (i + 1) ss) (stays best q (i + 1) ss) h

none_best : (i : ℕ) (ss : List Score) → best_of score.Failed None i ss ≡ None → AllByRecursion Loses ss
none_best i [] h = tt
none_best i (score.Failed ∷ ss) h = (tt, none_best (i + 1) ss h)
none_best i (score.Good g n ∷ ss) h = absurd (stays (score.Good g n) i (i + 1) ss h)

from_start : (ss : List Score) (p : ℕ) → BestWithin None 0 ss p → Within Wins 0 ss p
from_start ss p (inl e) = cc
from_start ss p (inr d) = d

chosen_by : (sure : Option ℕ) (ss : List Score) (p : ℕ) → first_sure 0 ss ≡ sure → option_or sure (best_of score.Failed None 0 ss) ≡ Some p → Within Wins 0 ss p
chosen_by None ss p e h = from_start ss p (best_within score.Failed None 0 ss p h)
chosen_by (Some q) ss p e h = sure_within 0 ss p (e ∙ h)

none_chosen : (sure : Option ℕ) (ss : List Score) → option_or sure (best_of score.Failed None 0 ss) ≡ None → AllByRecursion Loses ss
none_chosen None ss h = none_best 0 ss h
none_chosen (Some q) ss h = cc

-- the same of outcomes
one_scored : (o : Outcome) → Wins (score_of o) → Succeeds o
one_scored (Good v g n) is = tt
one_scored (Bad es) is = is

scored : (os : List Outcome) (j : ℕ) → Holds Wins (slice_get (map score_of os) j) → Holds Succeeds (slice_get os j)
scored [] j is = is
scored (o ∷ os) zero is = one_scored o is
scored (o ∷ os) (suc j) is = scored os j is

all_lose : (os : List Outcome) → AllByRecursion Loses (map score_of os) → AllByRecursion Fails os
all_lose [] h = tt
all_lose (Good v g n ∷ os) h = absurd h.0
all_lose (Bad es ∷ os) h = (tt, all_lose os h.1)

place_within : (left_to_right : Bool) (os : List Outcome) (p : ℕ) → place_by left_to_right os ≡ Some p → Within Succeeds 0 os p
unfolding choice
place_within true os p h = first_within 0 os p h
place_within false os p h = let d = chosen_by (first_sure 0 (map score_of os)) (map score_of os) p refl h in (d.0, d.1, scored os d.0 d.2)

none_placed : (left_to_right : Bool) (os : List Outcome) → place_by left_to_right os ≡ None → AllByRecursion Fails os
unfolding choice
none_placed true os h = none_first 0 os h
none_placed false os h = all_lose os (none_chosen (first_sure 0 (map score_of os)) (map score_of os) h)

not_both : (o : Outcome) → Succeeds o → Fails o → ⊥
not_both (Good v g n) is not = not
not_both (Bad es) is not = is

not_failed : (es : List LineError) (x : Option Outcome) → Holds Succeeds x → Fails (or_failures es x) → ⊥
not_failed es None is not = is
not_failed es (Some o) is not = not_both o is not

none_taken : (labels : List (List ℕ)) (os : List Outcome) (place : Option ℕ) → ((p : ℕ) → place ≡ Some p → Within Succeeds 0 os p) → (place ≡ None → AllByRecursion Fails os)
    → Fails (taken labels os place) → AllByRecursion Fails os
none_taken labels os None some none h = none refl
none_taken labels os (Some p) some none h =
    let d = some p refl in
    let same : p ≡ d.0 = omega (arith, d.1) in
    absurd (not_failed (failures labels os) (slice_get os p) (subst (λ j. Holds Succeeds (slice_get os j)) (sym same) d.2) h)

all_given : (children : List Child) (t : Tree) → AllByRecursion Fails (each_given children t) → AllByRecursion (λ child. Fails (child t)) children
all_given [] t h = tt
all_given (c ∷ cs) t h = (h.0, all_given cs t h.1)

pub fails_by_all : (left_to_right : Bool) (labels : List (List ℕ)) (children : List Child) (t : Tree) → Fails (union left_to_right labels children t)
    → AllByRecursion (λ child. Fails (child t)) children
unfolding union union_of
fails_by_all ltr labels [] t h = tt
fails_by_all ltr labels (c ∷ []) t h = (h, tt)
fails_by_all ltr labels (c ∷ d ∷ cs) t h =
    let os = each_given (c ∷ d ∷ cs) t in
    all_given (c ∷ d ∷ cs) t (none_taken labels os (place_by ltr os) (place_within ltr os) (none_placed ltr os) h)

pub ruleset choosing = (succeeds_by_one, fails_by_all)
