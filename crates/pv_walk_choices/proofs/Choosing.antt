-- Which member of a union is taken, by the walk of its members.
use Rattle.std.proofs.Common.{◌≡◌, ℕ, zero, suc, ◌+◌, ◌<◌, ◌≤◌, Bool, true, false, if◌then◌else◌, List, [], ◌∷◌, ◌++◌, map, length, take, drop, get_or, Option, Some, None, slice_get, refl, sym, ap, subst, ◌∙◌, append-nil, append_assoc, arith}
use Rattle.std.specs.Option.{option_or}
use Rattle.std.specs.Prelude.{unwrap_or, Result}
use Rattle.std.proofs.Math.Seq.{take-append_seam}
use Rattle.std.proofs.lemmas.Bool.{false≢true}
use Rattle.std.proofs.lemmas.Option.{none-some}
use Rattle.std.proofs.lemmas.List.{drop_all, length-map}
use Rattle.pv_text.specs.declared.Memory.{Memory}
use Rattle.pv_tree.specs.declared.Step.{Step}
use Rattle.pv_tree.specs.declared.Step.TheVariants.{Name}
use Rattle.pv_tree.specs.declared.Tree.{Tree}
use Rattle.pv_fault.specs.declared.Good as good
use Rattle.pv_fault.specs.declared.LineError.{LineError}
use Rattle.pv_fault.specs.declared.Outcome.{Outcome}
use Rattle.pv_fault.specs.declared.Outcome.TheVariants.{Good, Bad}
use Rattle.pv_fault.specs.Under.{outcome_under, all_at_path}
use Rattle.pv_collect.specs.Gathering as gathering
use Rattle.pv_collect.specs.Kept.{good_of}
use Rattle.pv_union.specs.declared.score.Score.{Score}
use Rattle.pv_union.specs.declared.score.Score.TheVariants as score
use Rattle.pv_union.specs.Choice.{score_found, is_sure, first_sure, is_better, best_of, choice}
use Rattle.pv_union.specs.Unions.{score_of, errors_of, first_label, failures, first_success, place_by, or_failures, taken, union_of}
use Rattle.pv_walk.specs.declared.Out.{Out}
use Rattle.pv_walk.specs.Walks.{Adds, written, Walked, Walks}
use Rattle.pv_walk.specs.Rules.{Child, first}
use Rattle.pv_walk.specs.Unions.{given_for, each_given, union}
use Rattle.pv_walk_choices.specs.Members.{taken_by, better}
use Rattle.pv_walk.proofs.Walking.{adds_none, adds_walked, adds_both, adds_same, walked_bad}

-- what stands at a place, and what is left from there
pub member_at : (f : ℕ → Child) (t : Tree) (cs : List ℕ) (i c d : ℕ) → i < length cs → c ≡ get_or cs i d
    → drop i (each_given (map f cs) t) ≡ f c t ∷ drop (i + 1) (each_given (map f cs) t)
member_at f t [] i c d l here = absurd (omega (arith, l))
member_at f t (b ∷ cs) zero c d l here = ap (λ n. f n t ∷ each_given (map f cs) t) (sym here)
member_at f t (b ∷ cs) (suc i) c d l here =
    let more : suc i + 1 ≡ suc (i + 1) = omega arith in
    member_at f t cs i c d (omega (arith, l)) here ∙ ap (λ n. f c t ∷ drop n (each_given (map f (b ∷ cs)) t)) (sym more)

pub none_behind : (f : ℕ → Child) (t : Tree) (cs : List ℕ) (i : ℕ) → length cs ≤ i → drop i (each_given (map f cs) t) ≡ []
none_behind f t cs i l =
    drop_all i (each_given (map f cs) t) (omega (arith, l, length-map (map f cs) (given_for t), length-map cs f))

first_of_rest : {X : Type 0} (xs : List X) (i : ℕ) (x : X) (rest : List X) → drop i xs ≡ x ∷ rest → slice_get xs i ≡ Some x
first_of_rest [] zero x rest e = cc
first_of_rest [] (suc i) x rest e = cc
first_of_rest (y ∷ ys) zero x rest e = let same : y ≡ x = cc in ap Some same
first_of_rest (y ∷ ys) (suc i) x rest e = first_of_rest ys i x rest e

one_more : {X : Type 0} (xs : List X) (i : ℕ) → drop 1 (drop i xs) ≡ drop (i + 1) xs
one_more [] zero = refl
one_more [] (suc i) = let more : suc i + 1 ≡ suc (i + 1) = omega arith in ap (λ n. drop n []) (sym more)
one_more (x ∷ xs) zero = refl
one_more (x ∷ xs) (suc i) =
    let more : suc i + 1 ≡ suc (i + 1) = omega arith in one_more xs i ∙ ap (λ n. drop n (x ∷ xs)) (sym more)

-- the label at a place is the first of those that are left from there
pub label_here : (labels : List (List ℕ)) (i : ℕ) → unwrap_or (slice_get labels i) [] ≡ first_label (drop i labels)
label_here [] zero = refl
label_here [] (suc i) = refl
label_here (l ∷ ls) zero = refl
label_here (l ∷ ls) (suc i) = label_here ls i

same_errors : (o : Outcome) → gathering.errors_of o ≡ errors_of o
same_errors (Good v g n) = refl
same_errors (Bad es) = refl

-- The first i members were walked: their errors were added, and those of the rest are left.
pub record Passed (old new : Out) (labels : List (List ℕ)) (os : List Outcome) (i : ℕ) : Type 0 where
  pub tried : List LineError
  pub adds : Adds old new tried
  pub rest : failures labels os ≡ tried ++ failures (drop i labels) (drop i os)

module _ (old : Out) (labels : List (List ℕ)) (os : List Outcome) where
  passed_start : Passed old old labels os 0
  passed_start = record { tried = []; adds = adds_none old; rest = refl }

  module _ (new : Out) (i : ℕ) where
    passed_end : Passed old new labels os i → drop i os ≡ [] → Adds old new (failures labels os)
    passed_end h e =
        adds_same old new h.tried (failures labels os)
        (sym (h.rest ∙ ap (λ xs. h.tried ++ failures (drop i labels) xs) e ∙ append-nil h.tried)) h.adds

    -- one more member
    passed_next : (next : Out) (label : List ℕ) (found : Option good.Good) (o : Outcome) → label ≡ first_label (drop i labels) → drop i os ≡ o ∷ drop (i + 1) os
        → Passed old new labels os i → Walked new next found (outcome_under (Name label) o) → Passed old next labels os (i + 1)
    passed_next next label found o named here h w =
        let es : List LineError = errors_of (outcome_under (Name (first_label (drop i labels))) o) in
        let more : Adds new next es =
        adds_same new next _ es (same_errors (outcome_under (Name label) o) ∙ ap (λ l. errors_of (outcome_under (Name l) o)) named)
        (adds_walked new next found (outcome_under (Name label) o) w) in
        record {
          tried = h.tried ++ es;
          adds = adds_both old new next h.tried es h.adds more;
          rest = h.rest ∙ ap (λ xs. h.tried ++ failures (drop i labels) xs) here
              ∙ ap (λ ls. h.tried ++ (es ++ failures ls (drop (i + 1) os))) (one_more labels i)
              ∙ sym (append_assoc h.tried es (failures (drop (i + 1) labels) (drop (i + 1) os)));
        }

-- The errors that were added are taken back where a success is the answer: then nothing was written.
cut_back : (old next cut : Out) (n : ℕ) (es : List LineError) (found : Option good.Good) (o p : Outcome) → n ≡ length old.errors → Adds old next es
    → cut.path ≡ next.path → cut.errors ≡ take n next.errors → found ≡ good_of o → written old.path old.errors o ≡ old.errors → p ≡ o → Walked old cut found p
cut_back old next cut n es found o p mark a path errors answer clean is = record {
  path = path ∙ a.path;
  answer = answer ∙ ap good_of (sym is);
  errors = errors ∙ ap (take n) a.errors ∙ ap (λ k. take k (old.errors ++ all_at_path old.path es)) mark
      ∙ take-append_seam old.errors (all_at_path old.path es) ∙ sym clean ∙ ap (written old.path old.errors) (sym is);
}

-- the member at the place that is taken
taken_there : (left_to_right : Bool) (labels : List (List ℕ)) (os : List Outcome) (i : ℕ) (o : Outcome) → place_by left_to_right os ≡ Some i → slice_get os i ≡ Some o
    → taken_by left_to_right labels os ≡ o
taken_there left_to_right labels os i o place here = ap (taken labels os) place ∙ ap (or_failures (failures labels os)) here

none_taken : (left_to_right : Bool) (labels : List (List ℕ)) (os : List Outcome) → place_by left_to_right os ≡ None → taken_by left_to_right labels os ≡ Bad (failures labels os)
none_taken left_to_right labels os place = ap (taken labels os) place

-- FROM LEFT TO RIGHT: the first i members failed
pub record Failing (old new : Out) (labels : List (List ℕ)) (os : List Outcome) (i : ℕ) : Type 0 where
  pub passed : Passed old new labels os i
  pub place : first_success 0 os ≡ first_success i (drop i os)

module _ (old : Out) (labels : List (List ℕ)) (os : List Outcome) where
  pub failing_start : Failing old old labels os 0
  failing_start = record { passed = passed_start old labels os; place = refl }

  module _ (new : Out) (i : ℕ) (h : Failing old new labels os i) where
    pub failing_end : drop i os ≡ [] → Walked old new None (taken_by true labels os)
    failing_end e =
        walked_bad old new (failures labels os) _ (passed_end old labels os new i h.passed e)
        (none_taken true labels os (h.place ∙ ap (first_success i) e))

    module _ (next : Out) (label : List ℕ) (named : label ≡ first_label (drop i labels)) (found : Option good.Good) where
      pub failing_next : (o : Outcome) → drop i os ≡ o ∷ drop (i + 1) os → Walked new next found (outcome_under (Name label) o) → found ≡ None
          → Failing old next labels os (i + 1)
      failing_next (Good v g n) here w none = absurd (none-some _ (sym none ∙ w.answer))
      failing_next (Bad es) here w none = record {
        passed = passed_next old labels os new i next label found (Bad es) named here h.passed w;
        place = h.place ∙ ap (first_success i) here;
      }

      pub first_taken : (o : Outcome) (x : good.Good) (cut : Out) (n : ℕ) → drop i os ≡ o ∷ drop (i + 1) os
          → Walked new next found (outcome_under (Name label) o) → found ≡ Some x → n ≡ length old.errors → cut.path ≡ next.path → cut.errors ≡ take n next.errors
          → Walked old cut (Some x) (taken_by true labels os)
      first_taken (Bad es) x cut n here w some mark path errors = absurd (none-some _ (sym w.answer ∙ some))
      first_taken (Good v g k) x cut n here w some mark path errors =
          let p = passed_next old labels os new i next label found (Good v g k) named here h.passed w in
          cut_back old next cut n p.tried (Some x) (Good v g k) _ mark p.adds path errors (sym some ∙ w.answer) refl
          (taken_there true labels os i (Good v g k) (h.place ∙ ap (first_success i) here) (first_of_rest os i _ _ here))

-- SMART: none of the first i members was sure, and this is the best of them
abbrev Held : List Outcome → Option good.Good → Option ℕ → Type 0
Held os None None = Unit
Held os None (Some i) = ⊥
Held os (Some g) None = ⊥
Held os (Some g) (Some i) = slice_get os i ≡ Some (Good g.value g.grade g.fields)

pub record Choosing (old new : Out) (labels : List (List ℕ)) (os : List Outcome) (i : ℕ) (best : Option good.Good) : Type 0 where
  pub passed : Passed old new labels os i
  pub place : Option ℕ
  pub held : Held os best place
  pub sure : first_sure 0 (map score_of os) ≡ first_sure i (map score_of (drop i os))
  pub better : best_of score.Failed None 0 (map score_of os) ≡ best_of (score_found best) place i (map score_of (drop i os))

same_score : (label : List ℕ) (o : Outcome) (found : Option good.Good) → found ≡ good_of (outcome_under (Name label) o) → score_found found ≡ score_of o
same_score label (Good v g n) found e = ap score_found e
same_score label (Bad es) found e = ap score_found e

failed_is_worse : (best : Score) → is_better best score.Failed ≡ false
failed_is_worse score.Failed = refl
failed_is_worse (score.Good g n) = refl

-- what takes the place of the best stands at its own place
held_next : (os : List Outcome) (i : ℕ) (label : List ℕ) (o : Outcome) (best found : Option good.Good) → slice_get os i ≡ Some o
    → found ≡ good_of (outcome_under (Name label) o) → is_better (score_found best) (score_found found) ≡ true → Held os found (Some i)
held_next os i label (Good v g n) best found here e is = subst (λ x. Held os x (Some i)) (sym e) here
held_next os i label (Bad es) best found here e is =
    absurd (false≢true (sym (ap (is_better (score_found best)) (ap score_found e) ∙ failed_is_worse (score_found best)) ∙ is))

module _ (old : Out) (labels : List (List ℕ)) (os : List Outcome) where
  pub choosing_start : Choosing old old labels os 0 None
  choosing_start = record { passed = passed_start old labels os; place = None; held = tt; sure = refl; better = refl }

  module _ (new : Out) (i : ℕ) (best : Option good.Good) (h : Choosing old new labels os i best) where
    module _ (next : Out) (label : List ℕ) (named : label ≡ first_label (drop i labels)) (o : Outcome) (found : Option good.Good)
        (here : drop i os ≡ o ∷ drop (i + 1) os) (w : Walked new next found (outcome_under (Name label) o)) where
      scored : score_of o ≡ score_found found
      scored = sym (same_score label o found w.answer)

      unsure : is_sure (score_found found) ≡ false → first_sure 0 (map score_of os) ≡ first_sure (i + 1) (map score_of (drop (i + 1) os))
      unsure doubt =
          h.sure ∙ ap (λ xs. first_sure i (map score_of xs)) here
          ∙ ap (λ b. if b then Some i else first_sure (i + 1) (map score_of (drop (i + 1) os))) (ap is_sure scored ∙ doubt)

      turned : best_of score.Failed None 0 (map score_of os)
          ≡ (if is_better (score_found best) (score_found found) then best_of (score_found found) (Some i) (i + 1) (map score_of (drop (i + 1) os))
          else best_of (score_found best) h.place (i + 1) (map score_of (drop (i + 1) os)))
      turned =
          h.better ∙ ap (λ xs. best_of (score_found best) h.place i (map score_of xs)) here
          ∙ ap (λ s. if is_better (score_found best) s then best_of s (Some i) (i + 1) (map score_of (drop (i + 1) os))
          else best_of (score_found best) h.place (i + 1) (map score_of (drop (i + 1) os))) scored

      kept_by : (b : Bool) → is_better (score_found best) (score_found found) ≡ b → is_sure (score_found found) ≡ false
          → Choosing old next labels os (i + 1) (if b then found else best)
      kept_by true is doubt = record {
        passed = passed_next old labels os new i next label found o named here h.passed w;
        place = Some i;
        held = held_next os i label o best found (first_of_rest os i _ _ here) w.answer is;
        sure = unsure doubt;
        better = turned ∙ ap (λ b. if b then best_of (score_found found) (Some i) (i + 1) (map score_of (drop (i + 1) os))
            else best_of (score_found best) h.place (i + 1) (map score_of (drop (i + 1) os))) is;
      }
      kept_by false is doubt = record {
        passed = passed_next old labels os new i next label found o named here h.passed w;
        place = h.place;
        held = h.held;
        sure = unsure doubt;
        better = turned ∙ ap (λ b. if b then best_of (score_found found) (Some i) (i + 1) (map score_of (drop (i + 1) os))
            else best_of (score_found best) h.place (i + 1) (map score_of (drop (i + 1) os))) is;
      }

      pub choosing_next : (more : Option good.Good) → is_sure (score_found found) ≡ false → more ≡ better best found → Choosing old next labels os (i + 1) more
      choosing_next more doubt e =
          subst (λ b. Choosing old next labels os (i + 1) b) (sym e) (kept_by (is_better (score_found best) (score_found found)) refl doubt)

      sure_place : is_sure (score_found found) ≡ true → place_by false os ≡ Some i
      unfolding choice
      sure_place certain =
          ap (λ p. option_or p (best_of score.Failed None 0 (map score_of os)))
          (h.sure ∙ ap (λ xs. first_sure i (map score_of xs)) here
          ∙ ap (λ b. if b then Some i else first_sure (i + 1) (map score_of (drop (i + 1) os))) (ap is_sure scored ∙ certain))

    end_place : drop i os ≡ [] → place_by false os ≡ h.place
    unfolding choice
    end_place e =
        ap (λ p. option_or p (best_of score.Failed None 0 (map score_of os))) (h.sure ∙ ap (λ xs. first_sure i (map score_of xs)) e)
        ∙ h.better ∙ ap (λ xs. best_of (score_found best) h.place i (map score_of xs)) e

sure_good : (label : List ℕ) (o : Outcome) (found : Option good.Good) → found ≡ good_of (outcome_under (Name label) o) → is_sure (score_found found) ≡ true
    → (found ≡ good_of o) × ((path : List Step) (errors : List LineError) → written path errors o ≡ errors)
sure_good label (Good v g n) found e certain = (e, λ path errors. refl)
sure_good label (Bad es) found e certain = absurd (false≢true (sym (ap (λ f. is_sure (score_found f)) e) ∙ certain))

best_there : (labels : List (List ℕ)) (os : List Outcome) (place : Option ℕ) (g : good.Good) → Held os (Some g) place → place_by false os ≡ place
    → taken_by false labels os ≡ Good g.value g.grade g.fields
best_there labels os None g h e = absurd h
best_there labels os (Some i) g h e = taken_there false labels os i (Good g.value g.grade g.fields) e h

no_best : (labels : List (List ℕ)) (os : List Outcome) (place : Option ℕ) → Held os None place → place_by false os ≡ place
    → taken_by false labels os ≡ Bad (failures labels os)
no_best labels os None h e = none_taken false labels os e
no_best labels os (Some i) h e = absurd h

module _ (old new : Out) (labels : List (List ℕ)) (os : List Outcome) (i : ℕ) where
  pub sure_taken : (best : Option good.Good) (h : Choosing old new labels os i best) (next : Out) (label : List ℕ) (named : label ≡ first_label (drop i labels)) (o : Outcome)
      (found : Option good.Good) → drop i os ≡ o ∷ drop (i + 1) os → Walked new next found (outcome_under (Name label) o)
      → (cut : Out) (n : ℕ) → n ≡ length old.errors → cut.path ≡ next.path → cut.errors ≡ take n next.errors → is_sure (score_found found) ≡ true
      → Walked old cut found (taken_by false labels os)
  sure_taken best h next label named o found here w cut n mark path errors certain =
      let g = sure_good label o found w.answer certain in
      let p = passed_next old labels os new i next label found o named here h.passed w in
      cut_back old next cut n p.tried found o _ mark p.adds path errors g.0 (g.1 old.path old.errors)
      (taken_there false labels os i o (sure_place old labels os new i best h next label named o found here w certain) (first_of_rest os i _ _ here))

  pub best_taken : (best : Option good.Good) → Choosing old new labels os i best → (g : good.Good) → best ≡ Some g → drop i os ≡ [] → (cut : Out) (n : ℕ)
      → n ≡ length old.errors → cut.path ≡ new.path → cut.errors ≡ take n new.errors → Walked old cut (Some g) (taken_by false labels os)
  best_taken best h g is e cut n mark path errors =
      let k : Choosing old new labels os i (Some g) = subst (λ b. Choosing old new labels os i b) is h in
      cut_back old new cut n k.passed.tried (Some g) (Good g.value g.grade g.fields) _ mark k.passed.adds path errors refl refl
      (best_there labels os k.place g k.held (end_place old labels os new i (Some g) k e))

  pub nothing_taken : (best : Option good.Good) → Choosing old new labels os i best → best ≡ None → drop i os ≡ [] → Walked old new None (taken_by false labels os)
  nothing_taken best h is e =
      let k : Choosing old new labels os i None = subst (λ b. Choosing old new labels os i b) is h in
      walked_bad old new (failures labels os) _ (passed_end old labels os new i k.passed e)
      (no_best labels os k.place k.held (end_place old labels os new i None k e))

-- one member stands for the union
pub alone : (f : ℕ → Child) (ns : List ℕ) (t : Tree) (left_to_right : Bool) (labels : List (List ℕ)) (old new : Out) (r : Result (Option good.Good) Memory) → length ns ≡ 1
    → Walks old new r (first (map f ns) t) → Walks old new r (union left_to_right labels (map f ns) t)
unfolding union union_of
alone f [] t left_to_right labels old new r one w = absurd (omega (arith, one))
alone f (n ∷ []) t left_to_right labels old new r one w = w
alone f (n ∷ m ∷ ns) t left_to_right labels old new r one w = absurd (omega (arith, one))

-- several members, or none
pub several : (f : ℕ → Child) (ns : List ℕ) (t : Tree) (left_to_right b : Bool) (labels : List (List ℕ)) (old new : Out) (r : Result (Option good.Good) Memory) → left_to_right ≡ b
    → (length ns ≡ 1 → ⊥) → Walks old new r (taken_by b labels (each_given (map f ns) t)) → Walks old new r (union left_to_right labels (map f ns) t)
unfolding union union_of choice
several f [] t left_to_right true labels old new r is more w = w
several f [] t left_to_right false labels old new r is more w = w
several f (n ∷ []) t left_to_right b labels old new r is more w = absurd (more refl)
several f (n ∷ m ∷ ns) t left_to_right b labels old new r is more w =
    subst (λ x. Walks old new r (union x labels (map f (n ∷ m ∷ ns)) t)) (sym is) w
