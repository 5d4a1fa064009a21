-- The member that a smart union takes.
use Rattle.std.proofs.Common.{◌≡◌, ℕ, zero, suc, ◌+◌, ◌*◌, ◌<◌, ◌≤◌, Bool, true, false, true≢false, not, ◌&&◌, ◌||◌, cond, ltb, eqb, List, [], ◌∷◌, Option, Some, None, ◌⊎◌, inl, inr, refl, sym, ap, ◌∙◌, subst, arith}
use Rattle.std.specs.Prelude.{unwrap_or}
use Rattle.std.specs.Option.{option_or}
use Rattle.std.specs.List.{AllByRecursion}
use Rattle.std.proofs.lemmas.Bool.{ltb-false, eqb-false}
use Rattle.std.proofs.lemmas.Bool.Decides.{Decides-ltb, Decides-eqb}
use Rattle.std.proofs.lemmas.Option.{none-some}
use Rattle.pv_fault.specs.declared.Grade.{Grade}
use Rattle.pv_fault.specs.declared.Grade.TheVariants.{Lax, Strict, Exact}
use Rattle.pv_union.specs.Choice.{choice, first_sure, is_sure, is_better, is_higher, best_of}
use Rattle.pv_union.specs.Winners.{IsCounted, IsUncounted, AllFailed, AllCounted, AllUncounted, StandsAt, IsFirstSure, IsMostCounted, IsBestGraded}
use Rattle.pv_union.specs.declared.score.Score.{Score}
use Rattle.pv_union.specs.declared.score.Score.TheVariants as score

-- ---- the best by a rank

-- whether the later one is better is told by ranks
abbrev Agrees : (Score → ℕ) → Score → Score → Type 0
Agrees r s t = (is_better s t ≡ true → r s < r t) × (is_better s t ≡ false → r t ≤ r s)

module _ (r : Score → ℕ) (C : Score → Type 0) (agrees : (s t : Score) → C s → C t → Agrees r s t) where
  -- the first of the largest rank stands there
  record Wins (ss : List Score) (k : ℕ) : Type 0 where
    score : Score
    at : StandsAt ss k score
    among : C score
    before : (j : ℕ) (t : Score) → j < k → StandsAt ss j t → r t < r score
    most : (j : ℕ) (t : Score) → StandsAt ss j t → r t ≤ r score

  abbrev Stays : Score → List Score → Type 0
  Stays best ss = (j : ℕ) (t : Score) → StandsAt ss j t → r t ≤ r best

  abbrev Passes : Score → ℕ → List Score → Option ℕ → Type 0
  Passes best i ss o = (k : ℕ) × (w : Wins ss k) × (o ≡ Some (i + k)) × (r best < r w.score)

  abbrev Ends : Score → Option ℕ → ℕ → List Score → Option ℕ → Type 0
  Ends best place i ss o = ((o ≡ place) × Stays best ss) ⊎ Passes best i ss o

  stays_more : (best s : Score) (ss : List Score) → r s ≤ r best → Stays best ss → Stays best (s ∷ ss)
  stays_more best s ss less stays zero t e = subst (λ x. r x ≤ r best) (ap (λ o. unwrap_or o s) e) less
  stays_more best s ss less stays (suc j) t e = stays j t e

  wins_here : (s : Score) (ss : List Score) → C s → Stays s ss → Wins (s ∷ ss) 0
  wins_here s ss c stays = record {
    score = s;
    at = refl;
    among = c;
    before = λ j t less e. absurd (omega (arith, less));
    most = stays_more s s ss (omega arith) stays;
  }

  before_more : (s : Score) (ss : List Score) (k : ℕ) (w : Wins ss k) → r s < r w.score → (j : ℕ) (t : Score) → j < suc k → StandsAt (s ∷ ss) j t → r t < r w.score
  before_more s ss k w less zero t l e = subst (λ x. r x < r w.score) (ap (λ o. unwrap_or o s) e) less
  before_more s ss k w less (suc j) t l e = w.before j t (omega (arith, l)) e

  most_more : (s : Score) (ss : List Score) (k : ℕ) (w : Wins ss k) → r s < r w.score → (j : ℕ) (t : Score) → StandsAt (s ∷ ss) j t → r t ≤ r w.score
  most_more s ss k w less zero t e = let h = subst (λ x. r x < r w.score) (ap (λ o. unwrap_or o s) e) less in omega (arith, h)
  most_more s ss k w less (suc j) t e = w.most j t e

  wins_later : (s : Score) (ss : List Score) (k : ℕ) (w : Wins ss k) → r s < r w.score → Wins (s ∷ ss) (suc k)
  wins_later s ss k w less = record {
    score = w.score;
    at = w.at;
    among = w.among;
    before = before_more s ss k w less;
    most = most_more s ss k w less;
  }

  passes_later : (best s : Score) (i : ℕ) (ss : List Score) (o : Option ℕ) (k : ℕ) (w : Wins ss k) → o ≡ Some (i + 1 + k) → r best < r w.score → r s < r w.score
      → Passes best i (s ∷ ss) o
  unfolding wins_later
  passes_later best s i ss o k w e best_less less =
      let next : i + 1 + k ≡ i + suc k = omega arith in
      (suc k, wins_later s ss k w less, e ∙ ap Some next, best_less)

  -- the score that comes next is better
  taken : (best s : Score) (place : Option ℕ) (i : ℕ) (ss : List Score) (o : Option ℕ) → C s → r best < r s → Ends s (Some i) (i + 1) ss o → Ends best place i (s ∷ ss) o
  unfolding wins_here
  taken best s place i ss o c less (inl h) = let same : i ≡ i + 0 = omega arith in inr (0, wins_here s ss c h.1, h.0 ∙ ap Some same, less)
  taken best s place i ss o c less (inr p) = inr (passes_later best s i ss o p.0 p.1 p.2 (let h = p.3 in omega (arith, h, less)) p.3)

  -- it is not better
  passed : (best s : Score) (place : Option ℕ) (i : ℕ) (ss : List Score) (o : Option ℕ) → r s ≤ r best → Ends best place (i + 1) ss o → Ends best place i (s ∷ ss) o
  passed best s place i ss o less (inl h) = inl (h.0, stays_more best s ss less h.1)
  passed best s place i ss o less (inr p) = inr (passes_later best s i ss o p.0 p.1 p.2 p.3 (let h = p.3 in omega (arith, h, less)))

  next_by : (b : Bool) (best s : Score) (place : Option ℕ) (i : ℕ) (ss : List Score) → C s → (b ≡ true → r best < r s) → (b ≡ false → r s ≤ r best)
      → Ends s (Some i) (i + 1) ss (best_of s (Some i) (i + 1) ss) → Ends best place (i + 1) ss (best_of best place (i + 1) ss)
      → Ends best place i (s ∷ ss) (cond b (best_of s (Some i) (i + 1) ss) (best_of best place (i + 1) ss))
  next_by true best s place i ss c more less first later = taken best s place i ss _ c (more refl) first
  next_by false best s place i ss c more less first later = passed best s place i ss _ (less refl) later

  ends : (best : Score) (place : Option ℕ) (i : ℕ) (ss : List Score) → C best → AllByRecursion C ss → Ends best place i ss (best_of best place i ss)
  ends best place i [] c cs = inl (refl, λ j t e. absurd (none-some t e))
  ends best place i (s ∷ ss) c cs =
      let by = agrees best s c cs.0 in
      next_by (is_better best s) best s place i ss cs.0 by.0 by.1 (ends s (Some i) (i + 1) ss cs.0 cs.1) (ends best place (i + 1) ss c cs.1)

-- ---- ranks of grades and of counts

abbrev grade_rank : Grade → ℕ
grade_rank Lax = 1
grade_rank Strict = 2
grade_rank Exact = 3

grade_least : (g : Grade) → 1 ≤ grade_rank g
grade_least Lax = omega arith
grade_least Strict = omega arith
grade_least Exact = omega arith

grade_most : (g : Grade) → grade_rank g ≤ 3
grade_most Lax = omega arith
grade_most Strict = omega arith
grade_most Exact = omega arith

higher : (g h : Grade) → (is_higher g h ≡ true → grade_rank g < grade_rank h) × (is_higher g h ≡ false → grade_rank h ≤ grade_rank g)
higher Lax Lax = (λ e. absurd (true≢false (sym e)), λ e. omega arith)
higher Lax Strict = (λ e. omega arith, λ e. absurd (true≢false e))
higher Lax Exact = (λ e. omega arith, λ e. absurd (true≢false e))
higher Strict Lax = (λ e. absurd (true≢false (sym e)), λ e. omega arith)
higher Strict Strict = (λ e. absurd (true≢false (sym e)), λ e. omega arith)
higher Strict Exact = (λ e. omega arith, λ e. absurd (true≢false e))
higher Exact Lax = (λ e. absurd (true≢false (sym e)), λ e. omega arith)
higher Exact Strict = (λ e. absurd (true≢false (sym e)), λ e. omega arith)
higher Exact Exact = (λ e. absurd (true≢false (sym e)), λ e. omega arith)

not_higher : (g h : Grade) → grade_rank h ≤ grade_rank g → is_higher g h ≡ false
not_higher g h l = by (is_higher g h) refl
  where
    by : (b : Bool) → is_higher g h ≡ b → b ≡ false
    by true e = let k = (higher g h).0 e in absurd (omega (arith, k, l))
    by false e = refl

is_lower : (g h : Grade) → grade_rank g < grade_rank h → is_higher g h ≡ true
is_lower g h l = by (is_higher g h) refl
  where
    by : (b : Bool) → is_higher g h ≡ b → b ≡ true
    by true e = refl
    by false e = let k = (higher g h).1 e in absurd (omega (arith, k, l))

abbrev count_rank : Score → ℕ
count_rank score.Failed = 0
count_rank (score.Good g None) = 0
count_rank (score.Good g (Some n)) = 3 * n + grade_rank g

counted_by : (n m : ℕ) (g h : Grade) (b c : Bool) → ltb n m ≡ b → eqb n m ≡ c
    → ((b || (not (not c) && is_higher g h)) ≡ true → 3 * n + grade_rank g < 3 * m + grade_rank h) × ((b || (not (not c) && is_higher g h)) ≡ false → 3 * m + grade_rank h ≤ 3 * n + grade_rank g)
counted_by n m g h true c e f =
    let less = (Decides-ltb n m).0 e in
    let least = grade_least h in
    let most = grade_most g in
    (λ a. omega (arith, less, least, most), λ a. absurd (true≢false a))
counted_by n m g h false true e f =
    let same = (Decides-eqb n m).0 f in
    (λ a. let l = (higher g h).0 a in omega (arith, same, l), λ a. let l = (higher g h).1 a in omega (arith, same, l))
counted_by n m g h false false e f =
    let less = ltb-false n m e in
    let other = eqb-false n m f in
    let least = grade_least g in
    let most = grade_most h in
    (λ a. absurd (true≢false (sym a)), λ a. omega (arith, less, other, least, most))

counted_agrees : (s t : Score) → IsCounted s → IsCounted t → Agrees count_rank s t
counted_agrees score.Failed score.Failed c d = (λ e. absurd (true≢false (sym e)), λ e. omega arith)
counted_agrees score.Failed (score.Good h None) c d = absurd d
counted_agrees score.Failed (score.Good h (Some m)) c d = (λ e. let l = grade_least h in omega (arith, l), λ e. absurd (true≢false e))
counted_agrees (score.Good g None) t c d = absurd c
counted_agrees (score.Good g (Some n)) score.Failed c d = (λ e. absurd (true≢false (sym e)), λ e. omega arith)
counted_agrees (score.Good g (Some n)) (score.Good h None) c d = absurd d
counted_agrees (score.Good g (Some n)) (score.Good h (Some m)) c d = counted_by n m g h (ltb n m) (eqb n m) refl refl

abbrev plain_rank : Score → ℕ
plain_rank score.Failed = 0
plain_rank (score.Good g n) = grade_rank g

uncounted_agrees : (s t : Score) → IsUncounted s → IsUncounted t → Agrees plain_rank s t
uncounted_agrees score.Failed score.Failed c d = (λ e. absurd (true≢false (sym e)), λ e. omega arith)
uncounted_agrees score.Failed (score.Good h m) c d = (λ e. let l = grade_least h in omega (arith, l), λ e. absurd (true≢false e))
uncounted_agrees (score.Good g (Some n)) t c d = absurd c
uncounted_agrees (score.Good g None) score.Failed c d = (λ e. absurd (true≢false (sym e)), λ e. omega arith)
uncounted_agrees (score.Good g None) (score.Good h (Some m)) c d = absurd d
uncounted_agrees (score.Good g None) (score.Good h None) c d = higher g h

-- ---- the first that is sure

abbrev sure : Score
sure = score.Good Exact None

sure_is : (s : Score) → is_sure s ≡ true → s ≡ sure
sure_is score.Failed e = absurd (true≢false (sym e))
sure_is (score.Good Lax n) e = absurd (true≢false (sym e))
sure_is (score.Good Strict n) e = absurd (true≢false (sym e))
sure_is (score.Good Exact None) e = refl
sure_is (score.Good Exact (Some n)) e = absurd (true≢false (sym e))

first_by : (b : Bool) (n i : ℕ) (s : Score) (ss : List Score) → is_sure s ≡ b → ((j : ℕ) → j < suc i → StandsAt (s ∷ ss) j sure → ⊥) → first_sure (n + 1) ss ≡ Some (n + suc i)
    → cond b (Some n) (first_sure (n + 1) ss) ≡ Some (n + suc i)
first_by true n i s ss e first rest = absurd (first 0 (omega arith) (ap Some (sure_is s e)))
first_by false n i s ss e first rest = rest

first_is : (n i : ℕ) (ss : List Score) → StandsAt ss i sure → ((j : ℕ) → j < i → StandsAt ss j sure → ⊥) → first_sure n ss ≡ Some (n + i)
first_is n i [] at first = absurd (none-some sure at)
first_is n zero (s ∷ ss) at first =
    let here : s ≡ sure = ap (λ o. unwrap_or o s) at in
    let same : n ≡ n + 0 = omega arith in
    ap (λ x. cond (is_sure x) (Some n) (first_sure (n + 1) ss)) here ∙ ap Some same
first_is n (suc i) (s ∷ ss) at first =
    let next : n + 1 + i ≡ n + suc i = omega arith in
    first_by (is_sure s) n i s ss refl first (first_is (n + 1) i ss at (λ j l. first (suc j) (omega (arith, l))) ∙ ap Some next)

zero_plus : (i : ℕ) → 0 + i ≡ i
zero_plus i = omega arith

pub sure_is_taken : (ss : List Score) (i : ℕ) → IsFirstSure ss i → choice ss ≡ Some i
unfolding choice
sure_is_taken ss i h = ap (λ o. option_or o (best_of score.Failed None 0 ss)) (first_is 0 i ss h.at h.first ∙ ap Some (zero_plus i))

-- what a search for it ends with
record Found (ss : List Score) (k : ℕ) : Type 0 where
  at : StandsAt ss k sure
  first : (j : ℕ) → j < k → StandsAt ss j sure → ⊥

abbrev Searched : ℕ → List Score → Option ℕ → Type 0
Searched n ss o = (o ≡ None) ⊎ ((k : ℕ) × Found ss k × (o ≡ Some (n + k)))

found_later : (s : Score) (ss : List Score) (k : ℕ) → is_sure s ≡ false → Found ss k → Found (s ∷ ss) (suc k)
found_later s ss k e f = record { at = f.at; first = first }
  where
    first : (j : ℕ) → j < suc k → StandsAt (s ∷ ss) j sure → ⊥
    first zero l a = true≢false (sym (ap (λ o. is_sure (unwrap_or o s)) a) ∙ e)
    first (suc j) l a = f.first j (omega (arith, l)) a

searched_later : (n : ℕ) (s : Score) (ss : List Score) (o : Option ℕ) → is_sure s ≡ false → Searched (n + 1) ss o → Searched n (s ∷ ss) o
searched_later n s ss o e (inl none) = inl none
searched_later n s ss o e (inr f) = let next : n + 1 + f.0 ≡ n + suc f.0 = omega arith in inr (suc f.0, found_later s ss f.0 e f.1, f.2 ∙ ap Some next)

searched_by : (b : Bool) (n : ℕ) (s : Score) (ss : List Score) → is_sure s ≡ b → Searched (n + 1) ss (first_sure (n + 1) ss) → Searched n (s ∷ ss) (cond b (Some n) (first_sure (n + 1) ss))
searched_by true n s ss e rest =
    let same : n ≡ n + 0 = omega arith in
    inr (0, record { at = ap Some (sure_is s e); first = λ j l a. omega (arith, l) }, ap Some same)
searched_by false n s ss e rest = searched_later n s ss (first_sure (n + 1) ss) e rest

searched : (n : ℕ) (ss : List Score) → Searched n ss (first_sure n ss)
searched n [] = inl refl
searched n (s ∷ ss) = searched_by (is_sure s) n s ss refl (searched (n + 1) ss)

-- ---- each success has a count

no_sure : (n : ℕ) (ss : List Score) → AllCounted ss → first_sure n ss ≡ None
no_sure n [] c = refl
no_sure n (score.Failed ∷ ss) c = no_sure (n + 1) ss c.1
no_sure n (score.Good g None ∷ ss) c = absurd c.0
no_sure n (score.Good Lax (Some m) ∷ ss) c = no_sure (n + 1) ss c.1
no_sure n (score.Good Strict (Some m) ∷ ss) c = no_sure (n + 1) ss c.1
no_sure n (score.Good Exact (Some m) ∷ ss) c = no_sure (n + 1) ss c.1

fewer_or : (m n : ℕ) (h g : Grade) → 3 * m + grade_rank h < 3 * n + grade_rank g → (m < n) ⊎ (is_higher h g ≡ true)
fewer_or m n h g l = by (ltb m n) refl
  where
    by : (b : Bool) → ltb m n ≡ b → (m < n) ⊎ (is_higher h g ≡ true)
    by true e = inl ((Decides-ltb m n).0 e)
    by false e =
        let k = ltb-false m n e in
        let least = grade_least h in
        let most = grade_most g in
        inr (is_lower h g (omega (arith, k, l, least, most)))

most_won : (ss : List Score) (k : ℕ) (s : Score) → StandsAt ss k s → IsCounted s → 0 < count_rank s
    → ((j : ℕ) (t : Score) → j < k → StandsAt ss j t → count_rank t < count_rank s) → ((j : ℕ) (t : Score) → StandsAt ss j t → count_rank t ≤ count_rank s) → IsMostCounted ss k
most_won ss k score.Failed at c some before most = absurd (omega (arith, some))
most_won ss k (score.Good g None) at c some before most = absurd c
most_won ss k (score.Good g (Some n)) at c some before most = record {
  grade = g;
  count = n;
  at = at;
  most = λ j h m a.
      let l = most j (score.Good h (Some m)) a in
      let least = grade_least h in
      let largest = grade_most g in
      omega (arith, l, least, largest);
  best = λ j h a. let l = most j (score.Good h (Some n)) a in not_higher g h (omega (arith, l));
  first = λ j h m less a. fewer_or m n h g (before j (score.Good h (Some m)) less a);
}

place_is : (i k : ℕ) (o : Option ℕ) → o ≡ Some i → o ≡ Some (0 + k) → k ≡ i
place_is i k o e f = sym (zero_plus k) ∙ ap (λ p. unwrap_or p 0) (sym f ∙ e)

pub most_is_taken : (ss : List Score) (i : ℕ) → AllCounted ss → choice ss ≡ Some i → IsMostCounted ss i
unfolding choice
most_is_taken ss i all is = by (ends count_rank IsCounted counted_agrees score.Failed None 0 ss tt all)
  where
    chosen : best_of score.Failed None 0 ss ≡ Some i
    chosen = sym (ap (λ o. option_or o (best_of score.Failed None 0 ss)) (no_sure 0 ss all)) ∙ is

    by : Ends count_rank IsCounted counted_agrees score.Failed None 0 ss (best_of score.Failed None 0 ss) → IsMostCounted ss i
    by (inl h) = absurd (none-some i (sym h.0 ∙ chosen))
    by (inr p) =
        let w = p.1 in
        subst (IsMostCounted ss) (place_is i p.0 (best_of score.Failed None 0 ss) chosen p.2) (most_won ss p.0 w.score w.at w.among p.3 w.before w.most)

-- ---- no success has a count

best_won : (ss : List Score) (k : ℕ) (s : Score) → StandsAt ss k s → IsUncounted s → 0 < plain_rank s
    → ((j : ℕ) (t : Score) → j < k → StandsAt ss j t → plain_rank t < plain_rank s) → ((j : ℕ) (t : Score) → StandsAt ss j t → plain_rank t ≤ plain_rank s) → IsBestGraded ss k
best_won ss k score.Failed at c some before most = absurd (omega (arith, some))
best_won ss k (score.Good g (Some n)) at c some before most = absurd c
best_won ss k (score.Good g None) at c some before most = record {
  grade = g;
  at = at;
  best = λ j h a. not_higher g h (most j (score.Good h None) a);
  first = λ j h less a. is_lower h g (before j (score.Good h None) less a);
}

below_sure : (h : Grade) → (h ≡ Exact → ⊥) → is_higher h Exact ≡ true
below_sure Lax n = refl
below_sure Strict n = refl
below_sure Exact n = absurd (n refl)

sure_won : (ss : List Score) (k : ℕ) → Found ss k → IsBestGraded ss k
sure_won ss k f = record {
  grade = Exact;
  at = f.at;
  best = λ j h a. refl;
  first = λ j h less a. below_sure h (λ e. f.first j less (a ∙ ap (λ g. Some (score.Good g None)) e));
}

best_by : (ss : List Score) (i : ℕ) → AllUncounted ss → Searched 0 ss (first_sure 0 ss) → option_or (first_sure 0 ss) (best_of score.Failed None 0 ss) ≡ Some i → IsBestGraded ss i
best_by ss i all (inr f) is =
    subst (IsBestGraded ss) (place_is i f.0 (option_or (first_sure 0 ss) (best_of score.Failed None 0 ss)) is (ap (λ o. option_or o (best_of score.Failed None 0 ss)) f.2)) (sure_won ss f.0 f.1)
best_by ss i all (inl none) is = by (ends plain_rank IsUncounted uncounted_agrees score.Failed None 0 ss tt all)
  where
    chosen : best_of score.Failed None 0 ss ≡ Some i
    chosen = sym (ap (λ o. option_or o (best_of score.Failed None 0 ss)) none) ∙ is

    by : Ends plain_rank IsUncounted uncounted_agrees score.Failed None 0 ss (best_of score.Failed None 0 ss) → IsBestGraded ss i
    by (inl h) = absurd (none-some i (sym h.0 ∙ chosen))
    by (inr p) =
        let w = p.1 in
        subst (IsBestGraded ss) (place_is i p.0 (best_of score.Failed None 0 ss) chosen p.2) (best_won ss p.0 w.score w.at w.among p.3 w.before w.most)

pub best_is_taken : (ss : List Score) (i : ℕ) → AllUncounted ss → choice ss ≡ Some i → IsBestGraded ss i
unfolding choice
best_is_taken ss i all is = best_by ss i all (searched 0 ss) is

-- ---- all failed

kept_by : (b : Bool) (o p : Option ℕ) → (o ≡ None → ⊥) → (p ≡ None → ⊥) → cond b o p ≡ None → ⊥
kept_by true o p h k e = h e
kept_by false o p h k e = k e

kept : (best : Score) (place i : ℕ) (ss : List Score) → best_of best (Some place) i ss ≡ None → ⊥
kept best place i [] e = none-some place (sym e)
kept best place i (s ∷ ss) e =
    kept_by (is_better best s) (best_of s (Some i) (i + 1) ss) (best_of best (Some place) (i + 1) ss) (kept s i (i + 1) ss) (kept best place (i + 1) ss) e

all_failed : (i : ℕ) (ss : List Score) → best_of score.Failed None i ss ≡ None → AllFailed ss
all_failed i [] e = tt
all_failed i (score.Failed ∷ ss) e = (tt, all_failed (i + 1) ss e)
all_failed i (score.Good g n ∷ ss) e = absurd (kept (score.Good g n) i (i + 1) ss e)

or_none : (o p : Option ℕ) → option_or o p ≡ None → p ≡ None
or_none None p e = e
or_none (Some x) p e = absurd (none-some x (sym e))

pub none_failed : (ss : List Score) → choice ss ≡ None → AllFailed ss
unfolding choice
none_failed ss e = all_failed 0 ss (or_none (first_sure 0 ss) (best_of score.Failed None 0 ss) e)

none_sure : (n : ℕ) (ss : List Score) → AllFailed ss → first_sure n ss ≡ None
none_sure n [] h = refl
none_sure n (score.Failed ∷ ss) h = none_sure (n + 1) ss h.1
none_sure n (score.Good g m ∷ ss) h = absurd h.0

none_best : (i : ℕ) (ss : List Score) → AllFailed ss → best_of score.Failed None i ss ≡ None
none_best i [] h = refl
none_best i (score.Failed ∷ ss) h = none_best (i + 1) ss h.1
none_best i (score.Good g m ∷ ss) h = absurd h.0

pub failed_none : (ss : List Score) → AllFailed ss → choice ss ≡ None
unfolding choice
failed_none ss h = ap (λ o. option_or o (best_of score.Failed None 0 ss)) (none_sure 0 ss h) ∙ none_best 0 ss h
