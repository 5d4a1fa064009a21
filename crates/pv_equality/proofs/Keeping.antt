-- What is kept of values: item by item, no two the same, and all where no two are the same.
use Rattle.std.proofs.Common.{◌≡◌, Bool, true, false, ◌||◌, cond, List, [], ◌∷◌, ◌++◌, refl, sym, ap, ◌∙◌, append_assoc, append-nil}
use Rattle.std.specs.List.{AllByRecursion, list_any}
use Rattle.std.proofs.lemmas.List.Folds.{list_any-append}
use Rattle.pv_tree.specs.declared.Value.{Value}
use Rattle.pv_equality.specs.Equality.{same}
use Rattle.pv_equality.specs.Merging.{AreDistinct, first_behind, first_of_each}
use Rattle.pv_equality.specs.Steps.{put_item}
use Rattle.pv_equality.proofs.Anys.{or_both, neither_left, neither_right, none_of_both, not_true, any_front, any_last, none_more}
use Rattle.pv_equality.proofs.Levels.{same_trans}

-- one of them is the same
abbrev pub any_same : List Value → Value → Bool
any_same bs v = list_any (λ b. same b v) bs

absorbed : (bs : List Value) (v w : Value) → any_same bs v ≡ true → same v w ≡ true → any_same bs w ≡ true
absorbed [] v w e f = cc
absorbed (b ∷ bs) v w e f =
    or_both (same b v) (any_same bs v) (same b w) (any_same bs w) (λ h. same_trans b v w h f) (λ h. absorbed bs v w h f) e

-- a value that one of the kept is the same as is one that one of all is the same as
step_new : (b s f v : Bool) → ((b || (s || false)) || f) ≡ ((b || (s || false)) || v) → (b || ((s || false) || f)) ≡ (b || (s || v))
step_new true s f v h = refl
step_new false true f v h = refl
step_new false false f v h = h

step_old : (b s f v : Bool) → (s ≡ true → b ≡ true) → ((b || (s || false)) || f) ≡ ((b || (s || false)) || v) → (b || f) ≡ (b || (s || v))
step_old true s f v g h = refl
step_old false true f v g h = let e : false ≡ true = g refl in cc
step_old false false f v g h = h

kept_at : (c : Bool) (before vs : List Value) (v w : Value) → any_same before v ≡ c
    → (any_same (before ++ v ∷ []) w || any_same (first_behind (before ++ v ∷ []) vs) w) ≡ (any_same (before ++ v ∷ []) w || any_same vs w)
    → (any_same before w || any_same (cond c [] (v ∷ []) ++ first_behind (before ++ v ∷ []) vs) w) ≡ (any_same before w || (same v w || any_same vs w))
kept_at true before vs v w e h =
    step_old (any_same before w) (same v w) (any_same (first_behind (before ++ v ∷ []) vs) w) (any_same vs w) (absorbed before v w e)
    ((λ i. sym (list_any-append (λ b. same b w) before (v ∷ [])) i || any_same (first_behind (before ++ v ∷ []) vs) w) ∙ h ∙ (λ i. list_any-append (λ b. same b w) before (v ∷ []) i || any_same vs w))
kept_at false before vs v w e h =
    (λ i. any_same before w || list_any-append (λ b. same b w) (v ∷ []) (first_behind (before ++ v ∷ []) vs) i)
    ∙ step_new (any_same before w) (same v w) (any_same (first_behind (before ++ v ∷ []) vs) w) (any_same vs w)
    ((λ i. sym (list_any-append (λ b. same b w) before (v ∷ [])) i || any_same (first_behind (before ++ v ∷ []) vs) w) ∙ h ∙ (λ i. list_any-append (λ b. same b w) before (v ∷ []) i || any_same vs w))

kept_any : (before vs : List Value) (w : Value) → (any_same before w || any_same (first_behind before vs) w) ≡ (any_same before w || any_same vs w)
kept_any before [] w = refl
kept_any before (v ∷ vs) w = kept_at (any_same before v) before vs v w refl (kept_any (before ++ v ∷ []) vs w)

pub as_among_all : (vs : List Value) (w : Value) → any_same (first_of_each vs) w ≡ any_same vs w
unfolding first_of_each
as_among_all vs w = kept_any [] vs w

-- one more value behind
behind_more : (before vs : List Value) (v : Value) → first_behind before (vs ++ v ∷ []) ≡ first_behind before vs ++ cond (any_same (before ++ vs) v) [] (v ∷ [])
behind_more before [] v = append-nil (cond (any_same before v) [] (v ∷ [])) ∙ (λ i. cond (any_same (sym (append-nil before) i) v) [] (v ∷ []))
behind_more before (w ∷ vs) v =
    ap (λ ks. cond (any_same before w) [] (w ∷ []) ++ ks) (behind_more (before ++ w ∷ []) vs v)
    ∙ sym (append_assoc (cond (any_same before w) [] (w ∷ [])) (first_behind (before ++ w ∷ []) vs) (cond (any_same ((before ++ w ∷ []) ++ vs) v) [] (v ∷ [])))
    ∙ (λ i. (cond (any_same before w) [] (w ∷ []) ++ first_behind (before ++ w ∷ []) vs) ++ cond (any_same (append_assoc before (w ∷ []) vs i) v) [] (v ∷ []))

put_by : (b : Bool) (kept : List Value) (v : Value) → kept ++ cond b [] (v ∷ []) ≡ cond b kept (kept ++ v ∷ [])
put_by true kept v = append-nil kept
put_by false kept v = refl

pub first_none : first_of_each [] ≡ []
unfolding first_of_each
first_none = refl

pub first_more : (vs : List Value) (v : Value) → first_of_each (vs ++ v ∷ []) ≡ put_item (first_of_each vs) v
unfolding first_of_each
first_more vs v =
    behind_more [] vs v
    ∙ (λ i. first_behind [] vs ++ cond (sym (kept_any [] vs v) i) [] (v ∷ []))
    ∙ put_by (any_same (first_behind [] vs) v) (first_behind [] vs) v

-- no two of the kept are the same
clear_at : (c : Bool) (b v : Value) (before vs : List Value) → any_same before v ≡ c → (same b v ≡ true → any_same before v ≡ true)
    → list_any (same b) (first_behind (before ++ v ∷ []) vs) ≡ false → list_any (same b) (cond c [] (v ∷ []) ++ first_behind (before ++ v ∷ []) vs) ≡ false
clear_at true b v before vs e f h = h
clear_at false b v before vs e f h = none_of_both (same b v) (list_any (same b) (first_behind (before ++ v ∷ []) vs)) (not_true (same b v) (any_same before v) f e) h

clear : (b : Value) (before vs : List Value) → ((w : Value) → same b w ≡ true → any_same before w ≡ true) → list_any (same b) (first_behind before vs) ≡ false
clear b before [] f = refl
clear b before (v ∷ vs) f =
    clear_at (any_same before v) b v before vs refl (f v) (clear b (before ++ v ∷ []) vs (λ w e. any_front (λ x. same x w) before (v ∷ []) (f w e)))

distinct_at : (c : Bool) (v : Value) (ks : List Value) → list_any (same v) ks ≡ false → AreDistinct ks → AreDistinct (cond c [] (v ∷ []) ++ ks)
distinct_at true v ks e d = d
distinct_at false v ks e d = (e, d)

distinct_behind : (before vs : List Value) → AreDistinct (first_behind before vs)
distinct_behind before [] = tt
distinct_behind before (v ∷ vs) =
    distinct_at (any_same before v) v (first_behind (before ++ v ∷ []) vs) (clear v (before ++ v ∷ []) vs (λ w e. any_last (λ x. same x w) before v e))
    (distinct_behind (before ++ v ∷ []) vs)

pub first_distinct : (vs : List Value) → AreDistinct (first_of_each vs)
unfolding first_of_each
first_distinct vs = distinct_behind [] vs

-- values no two of which are the same are kept as they are
abbrev AreNew : List Value → List Value → Type 0
AreNew before vs = AllByRecursion (λ v. any_same before v ≡ false) vs

new_more : (before : List Value) (v : Value) (vs : List Value) → AreNew before vs → list_any (same v) vs ≡ false → AreNew (before ++ v ∷ []) vs
new_more before v [] n e = tt
new_more before v (w ∷ vs) n e =
    (none_more (λ b. same b w) before v n.0 (neither_left (same v w) (list_any (same v) vs) e), new_more before v vs n.1 (neither_right (same v w) (list_any (same v) vs) e))

all_behind : (before vs : List Value) → AreNew before vs → AreDistinct vs → first_behind before vs ≡ vs
all_behind before [] n d = refl
all_behind before (v ∷ vs) n d =
    (λ i. cond (n.0 i) [] (v ∷ []) ++ all_behind (before ++ v ∷ []) vs (new_more before v vs n.1 d.0) d.1 i)

none_new : (vs : List Value) → AreNew [] vs
none_new [] = tt
none_new (v ∷ vs) = (refl, none_new vs)

pub distinct_stay : (vs : List Value) → AreDistinct vs → first_of_each vs ≡ vs
unfolding first_of_each
distinct_stay vs d = all_behind [] vs (none_new vs) d
