-- Turns of the walk of the fields and the extra members of an object.
use Rattle.std.proofs.Common.{◌≡◌, ℕ, zero, suc, ◌+◌, ◌<◌, ◌≤◌, Bool, true, false, cond, List, [], ◌∷◌, ◌++◌, map, length, take, get_or, Option, Some, None, slice_get, refl, sym, ap, subst, ◌∙◌, append-nil, append_assoc, arith}
use Rattle.std.specs.List.{flat_map, filter}
use Rattle.std.specs.Option.{option_map}
use Rattle.std.proofs.Math.Seq.{take-append_seam}
use Rattle.std.proofs.lemmas.Grind.{flat_map-append}
use Rattle.std.proofs.lemmas.List.{take_more, take_all}
use Rattle.std.proofs.lemmas.Option.{slice_get-map}
use Rattle.std.proofs.lemmas.List.Elements.{filter-append}
use Rattle.pv_tree.specs.declared.Step.{Step}
use Rattle.pv_tree.specs.declared.Step.TheVariants.{Name}
use Rattle.pv_tree.specs.declared.Tree.{Tree}
use Rattle.pv_rules.specs.declared.ExtraBehavior.{ExtraBehavior}
use Rattle.pv_rules.specs.declared.ExtraBehavior.TheVariants as behavior
use Rattle.pv_rules.specs.declared.FieldRule.{FieldRule}
use Rattle.pv_rules.specs.declared.FieldsRule.{FieldsRule}
use Rattle.pv_rules.specs.declared.Settings.{Settings}
use Rattle.pv_fault.specs.declared.Good as good
use Rattle.pv_fault.specs.declared.Kind.TheVariants as kind
use Rattle.pv_fault.specs.declared.LineError.{LineError}
use Rattle.pv_fault.specs.declared.Outcome.{Outcome}
use Rattle.pv_fault.specs.declared.Outcome.TheVariants.{Good, Bad}
use Rattle.pv_fault.specs.Single.{error_here}
use Rattle.pv_fault.specs.Under.{at_path, all_at_path, all_under, outcome_under}
use Rattle.pv_collect.specs.Gathering as gathering
use Rattle.pv_collect.specs.Kept.{good_of}
use Rattle.pv_collect.proofs.Parts.{empty_first}
use Rattle.pv_fields.specs.FieldList as list
use Rattle.pv_fields.specs.FieldList.{FieldAnswer, ExtraAnswer, Given, Defaulted, Missing, Absent, Kept, Forbidden, Answered, Extra, errors_of, field_errors, answer_errors, extra_errors, all_errors, all_outcomes, unless_errors, fields_of, count_in}
use Rattle.pv_fields.specs.Finding.{found_field}
use Rattle.pv_fields.specs.Kept.{KeptParts, given_kept, default_kept, extra_kept, kept_of, finished}
use Rattle.pv_fields.specs.Paths.{front_of, place_of}
use Rattle.pv_fields.proofs.Parts.{field_errors_more, extra_errors_more, given_more, defaulted_more, missing_more, absent_more, extra_more, forbidden_more, finished_all, failed_all}
use Rattle.pv_walk.specs.declared.Out.{Out}
use Rattle.pv_walk.specs.Walks.{Adds, Walked}
use Rattle.pv_walk.specs.Rules.{Child}
use Rattle.pv_walk.specs.Fields.{answer_of, unfound, answered, answers, extra_child, extra_by}
use Rattle.pv_walk_fields.specs.GoingFields.{WalkedAt, GoingFields}
use Rattle.pv_walk.proofs.Walking.{good_past, errors_past, adds_walked, adds_both, adds_same, none_added, same_length, walked_good, walked_bad}

-- the errors of an outcome, as both crates name them
pub same_errors : (o : Outcome) → gathering.errors_of o ≡ errors_of o
same_errors (Good v g n) = refl
same_errors (Bad es) = refl

same_good : (o : Outcome) → good_of o ≡ list.good_of o
same_good (Good v g n) = refl
same_good (Bad es) = refl

abbrev pub as_answered : FieldRule → FieldAnswer → Answered
as_answered f a = record { field = f; answer = a }

abbrev pub as_extra : List ℕ → Tree → ExtraAnswer → Extra
as_extra name t a = record { name = name; input = t; answer = a }

-- a field that is missing or absent keeps nothing
lacking_more : (fs : List Answered) (f : FieldRule) (required : Bool) → kept_of (fs ++ as_answered f (unfound required None) ∷ []) [] ≡ kept_of fs []
lacking_more fs f true = missing_more fs f
lacking_more fs f false = absent_more fs f

-- one more at the end of a list that is laid out
flat_more : {X A : Type 0} (f : X → List A) (xs : List X) (x : X) → flat_map f (xs ++ x ∷ []) ≡ flat_map f xs ++ f x
flat_more f xs x = flat_map-append f xs (x ∷ []) ∙ ap (λ ys. flat_map f xs ++ ys) (append-nil (f x))

-- steps at the end of the path are steps in front of each error
steps_past : (path steps : List Step) (es : List LineError) → all_at_path (path ++ steps) es ≡ all_at_path path (all_at_path steps es)
steps_past path steps [] = refl
steps_past path steps (e ∷ es) =
    ap (λ l. (let x : LineError = record { kind = e.kind; loc = l; input = e.input } in x) ∷ all_at_path (path ++ steps) es) (append_assoc path steps e.loc)
    ∙ ap (λ more. at_path path (at_path steps e) ∷ more) (steps_past path steps es)

path_kept : (old pushed new : List Step) (cut : List Step) (steps : List Step) (n : ℕ) → n ≡ length old → pushed ≡ old ++ steps → new ≡ pushed → cut ≡ take n new → cut ≡ old
path_kept old pushed new cut steps n len push same back =
    back ∙ ap (take n) (same ∙ push) ∙ ap (λ k. take k (old ++ steps)) len ∙ take-append_seam old steps

-- push steps, add errors, cut the path back
pub adds_at : (old pushed new back : Out) (steps : List Step) (n : ℕ) (es : List LineError)
    → n ≡ length old.path → pushed.path ≡ old.path ++ steps → pushed.errors ≡ old.errors → Adds pushed new es
    → back.path ≡ take n new.path → back.errors ≡ new.errors → Adds old back (all_at_path steps es)
adds_at old pushed new back steps n es len path errors a cut kept = record {
  path = path_kept old.path pushed.path new.path back.path steps n len path a.path cut;
  errors = kept ∙ a.errors ∙ ap (λ p. pushed.errors ++ all_at_path p es) path ∙ ap (λ xs. xs ++ all_at_path (old.path ++ steps) es) errors
      ∙ ap (λ xs. old.errors ++ xs) (steps_past old.path steps es);
}

-- push steps, walk, cut the path back
pub walked_at : (old pushed new back : Out) (steps : List Step) (n : ℕ) (found : Option good.Good) (o : Outcome)
    → n ≡ length old.path → pushed.path ≡ old.path ++ steps → pushed.errors ≡ old.errors → Walked pushed new found o
    → back.path ≡ take n new.path → back.errors ≡ new.errors → WalkedAt old back steps found o
walked_at old pushed new back steps n found o len path errors w cut kept = record {
  adds = adds_at old pushed new back steps n (errors_of o) len path errors (adds_same pushed new _ _ (same_errors o) (adds_walked pushed new found o w)) cut kept;
  answer = w.answer;
}

-- what is looked up, by what stands there
pub looked : {X Y : Type 0} (g : X → Y) (o : Option X) (x : X) (y : Y) → o ≡ Some x → option_map g o ≡ Some y → y ≡ g x
looked g (Some z) x y e h = let same : z ≡ x = cc in let made : g z ≡ y = cc in sym made ∙ ap g same
looked g None x y e h = cc

-- what was found of the field at a place
pub found_at : {X : Type 0} (g : FieldRule → X) (fields : List FieldRule) (i : ℕ) (f : FieldRule) (finds : List X) (x : X)
    → slice_get fields i ≡ Some f → finds ≡ map g fields → slice_get finds i ≡ Some x → g f ≡ x
found_at g fields i f finds x e all here =
    sym (looked g (slice_get fields i) f x e (sym (ap (λ xs. slice_get xs i) all ∙ slice_get-map g fields i) ∙ here))

module _ (start mid new : Out) (s : Settings) (t : Tree) (kept more : KeptParts) (fs : List Answered) (h : GoingFields start mid s t kept fs []) where
  field_next : (a : Answered) → Adds mid new (field_errors s t a)
      → (length new.errors ≡ length start.errors → kept ≡ kept_of fs [] → more ≡ kept_of (fs ++ a ∷ []) []) → GoingFields start new s t more (fs ++ a ∷ []) []
  field_next a adds take =
      let before : List LineError = all_errors s t fs [] in
      let grown : all_errors s t (fs ++ a ∷ []) [] ≡ before ++ field_errors s t a = field_errors_more s t fs a in
      let added : Adds start new (before ++ field_errors s t a) = adds_both start mid new _ _ h.adds adds in
      record {
        adds = adds_same start new _ _ (sym grown) added;
        whole = λ none.
            let both : before ++ field_errors s t a ≡ [] = sym grown ∙ none in
            take (same_length start new _ added both) (h.whole (empty_first before (field_errors s t a) both));
      }

  module _ (f : FieldRule) (name : List ℕ) (named : name ≡ f.name) (found : Option good.Good) (mark errors : ℕ) (m : mark ≡ length start.errors) (n : errors ≡ length new.errors) where
    given_next : (p : ℕ) (o : Outcome) → WalkedAt mid new (front_of s f p) found o → (errors ≡ mark → more ≡ given_kept kept name found)
        → GoingFields start new s t more (fs ++ as_answered f (Given p o) ∷ []) []
    given_next p o w take_it =
        field_next (as_answered f (Given p o)) w.adds
        (λ same is. take_it (n ∙ same ∙ sym m) ∙ ap (λ k. given_kept k name found) is ∙ ap (λ x. given_kept (kept_of fs []) x found) named
        ∙ ap (given_kept (kept_of fs []) f.name) (w.answer ∙ same_good o) ∙ sym (given_more fs f p o))

    -- a field whose tree was found
    pub found_next : (p : ℕ) (u : Tree) (child : Child) (default : Option Outcome) (front : List Step) → found_field s t f ≡ Some (p, u) → front ≡ front_of s f p
        → WalkedAt mid new front found (child u) → (errors ≡ mark → more ≡ given_kept kept name found)
        → GoingFields start new s t more (fs ++ as_answered f (answer_of f.required child default (found_field s t f)) ∷ []) []
    found_next p u child default front hit at w take_it =
        subst (λ x. GoingFields start new s t more (fs ++ as_answered f (answer_of f.required child default x) ∷ []) []) (sym hit)
        (given_next p (child u) (subst (λ path. WalkedAt mid new path found (child u)) at w) take_it)

    default_kept_next : (o : Outcome) → WalkedAt mid new (place_of s f) found o → (errors ≡ mark → more ≡ default_kept kept name found)
        → GoingFields start new s t more (fs ++ as_answered f (Defaulted o) ∷ []) []
    default_kept_next o w take_it =
        field_next (as_answered f (Defaulted o)) w.adds
        (λ same is. take_it (n ∙ same ∙ sym m) ∙ ap (λ k. default_kept k name found) is ∙ ap (λ x. default_kept (kept_of fs []) x found) named
        ∙ ap (default_kept (kept_of fs []) f.name) (w.answer ∙ same_good o) ∙ sym (defaulted_more fs f o))

    -- a field that was not found and has a default
    pub default_next : (o : Outcome) (child : Child) (default : Option Outcome) (place : List Step) → found_field s t f ≡ None → default ≡ Some o → place ≡ place_of s f
        → WalkedAt mid new place found o → (errors ≡ mark → more ≡ default_kept kept name found)
        → GoingFields start new s t more (fs ++ as_answered f (answer_of f.required child default (found_field s t f)) ∷ []) []
    default_next o child default place hit has at w take_it =
        subst (λ x. GoingFields start new s t more (fs ++ as_answered f (answer_of f.required child default x) ∷ []) []) (sym hit)
        (subst (λ d. GoingFields start new s t more (fs ++ as_answered f (unfound f.required d) ∷ []) []) (sym has)
        (default_kept_next o (subst (λ path. WalkedAt mid new path found o) at w) take_it))

-- a field that was not found and has no default
pub lacking_next : (start mid new : Out) (s : Settings) (t : Tree) (kept : KeptParts) (fs : List Answered) → GoingFields start mid s t kept fs []
    → (f : FieldRule) (child : Child) (default : Option Outcome) → found_field s t f ≡ None → default ≡ None
    → Adds mid new (answer_errors s t f (unfound f.required None))
    → GoingFields start new s t kept (fs ++ as_answered f (answer_of f.required child default (found_field s t f)) ∷ []) []
lacking_next start mid new s t kept fs h f child default hit has adds =
    subst (λ x. GoingFields start new s t kept (fs ++ as_answered f (answer_of f.required child default x) ∷ []) []) (sym hit)
    (subst (λ d. GoingFields start new s t kept (fs ++ as_answered f (unfound f.required d) ∷ []) []) (sym has)
    (field_next start mid new s t kept kept fs h (as_answered f (unfound f.required None)) adds (λ same is. is ∙ sym (lacking_more fs f f.required))))

-- one more extra member
module _ (start mid new : Out) (s : Settings) (t : Tree) (kept more : KeptParts) (fs : List Answered) (es : List Extra) (h : GoingFields start mid s t kept fs es) where
  extra_next : (e : Extra) → Adds mid new (extra_errors e)
      → (length new.errors ≡ length start.errors → kept ≡ kept_of fs es → more ≡ kept_of fs (es ++ e ∷ [])) → GoingFields start new s t more fs (es ++ e ∷ [])
  extra_next e adds take =
      let before : List LineError = all_errors s t fs es in
      let grown : all_errors s t fs (es ++ e ∷ []) ≡ before ++ extra_errors e = extra_errors_more s t fs es e in
      let added : Adds start new (before ++ extra_errors e) = adds_both start mid new _ _ h.adds adds in
      record {
        adds = adds_same start new _ _ (sym grown) added;
        whole = λ none.
            let both : before ++ extra_errors e ≡ [] = sym grown ∙ none in
            take (same_length start new _ added both) (h.whole (empty_first before (extra_errors e) both));
      }

  under_name : (name : List ℕ) (found : Option good.Good) (o : Outcome) → Walked mid new found (outcome_under (Name name) o) → Adds mid new (all_under (Name name) (errors_of o))
  under_name name found o w =
      adds_same mid new _ _ (errors_past (Name name) o ∙ ap (all_under (Name name)) (same_errors o)) (adds_walked mid new found _ w)

  pub allowed_next : (name : List ℕ) (u : Tree) (found : Option good.Good) (o : Outcome) (mark errors : ℕ) → mark ≡ length start.errors → errors ≡ length new.errors
      → Walked mid new found (outcome_under (Name name) o) → (errors ≡ mark → more ≡ extra_kept kept name found)
      → GoingFields start new s t more fs (es ++ as_extra name u (Kept o) ∷ [])
  allowed_next name u found o mark errors m n w take_it =
      extra_next (as_extra name u (Kept o)) (under_name name found o w)
      (λ same is. take_it (n ∙ same ∙ sym m) ∙ ap (λ k. extra_kept k name found) is
      ∙ ap (extra_kept (kept_of fs es) name) (w.answer ∙ sym (good_past (Name name) o) ∙ same_good o) ∙ sym (extra_more fs es name u o))

pub forbidden_next : (start mid new : Out) (s : Settings) (t : Tree) (kept : KeptParts) (fs : List Answered) (es : List Extra) → GoingFields start mid s t kept fs es
    → (name : List ℕ) (u : Tree) → Adds mid new (all_under (Name name) (error_here kind.ExtraForbidden u ∷ []))
    → GoingFields start new s t kept fs (es ++ as_extra name u Forbidden ∷ [])
forbidden_next start mid new s t kept fs es h name u adds =
    extra_next start mid new s t kept kept fs es h (as_extra name u Forbidden) adds (λ same is. is ∙ sym (forbidden_more fs es name u))

pub ignored_next : (start new : Out) (s : Settings) (t : Tree) (kept : KeptParts) (fs : List Answered) (es : List Extra) → GoingFields start new s t kept fs es
    → GoingFields start new s t kept fs (es ++ [])
ignored_next start new s t kept fs es h = subst (λ xs. GoingFields start new s t kept fs xs) (sym (append-nil es)) h

-- the loop over the fields
pub something_at : {X : Type 0} (xs : List X) (i : ℕ) → i < length xs → (x : X) × (slice_get xs i ≡ Some x)
something_at [] i l = absurd (omega (arith, l))
something_at (x ∷ xs) zero l = (x, refl)
something_at (x ∷ xs) (suc i) l = something_at xs i (omega (arith, l))

pub answers_more : (s : Settings) (t : Tree) (cs : List Child) (ds : List (Option Outcome)) (i j : ℕ) (fs : List FieldRule) (f : FieldRule) → slice_get fs j ≡ Some f
    → take (j + 1) (answers s t cs ds i fs) ≡ take j (answers s t cs ds i fs) ++ answered s t cs ds (i + j) f ∷ []
answers_more s t cs ds i j [] f e = cc
answers_more s t cs ds i zero (g ∷ fs) f e =
    let same : g ≡ f = cc in
    let at : i ≡ i + 0 = omega arith in
    ap (λ x. answered s t cs ds i x ∷ []) same ∙ ap (λ k. answered s t cs ds k f ∷ []) at
answers_more s t cs ds i (suc j) (g ∷ fs) f e =
    let more : suc j + 1 ≡ suc (j + 1) = omega arith in
    let at : i + 1 + j ≡ i + suc j = omega arith in
    ap (λ n. take n (answers s t cs ds i (g ∷ fs))) more
    ∙ ap (λ xs. answered s t cs ds i g ∷ xs) (answers_more s t cs ds (i + 1) j fs f e)
    ∙ ap (λ k. answered s t cs ds i g ∷ (take j (answers s t cs ds (i + 1) fs) ++ answered s t cs ds k f ∷ [])) at

pub answers_length : (s : Settings) (t : Tree) (cs : List Child) (ds : List (Option Outcome)) (i : ℕ) (fs : List FieldRule) → length (answers s t cs ds i fs) ≡ length fs
answers_length s t cs ds i [] = refl
answers_length s t cs ds i (f ∷ fs) = ap suc (answers_length s t cs ds (i + 1) fs)

pub answers_next : (s : Settings) (t : Tree) (cs : List Child) (ds : List (Option Outcome)) (j : ℕ) (fs : List FieldRule) (f : FieldRule) → slice_get fs j ≡ Some f
    → take (j + 1) (answers s t cs ds 0 fs) ≡ take j (answers s t cs ds 0 fs) ++ answered s t cs ds j f ∷ []
answers_next s t cs ds j fs f e =
    let at : 0 + j ≡ j = omega arith in
    answers_more s t cs ds 0 j fs f e ∙ ap (λ k. take j (answers s t cs ds 0 fs) ++ answered s t cs ds k f ∷ []) at

pub answers_all : (s : Settings) (t : Tree) (cs : List Child) (ds : List (Option Outcome)) (j : ℕ) (fs : List FieldRule) → length fs ≤ j
    → take j (answers s t cs ds 0 fs) ≡ answers s t cs ds 0 fs
answers_all s t cs ds j fs l = let n : length (answers s t cs ds 0 fs) ≡ length fs = answers_length s t cs ds 0 fs in take_all j (answers s t cs ds 0 fs) (omega (arith, n, l))

-- an extra member by the policy
pub allowed_by : (start new : Out) (s : Settings) (t : Tree) (kept : KeptParts) (fs : List Answered) (es : List Extra) (b : ExtraBehavior) (child : Option Child) (name : List ℕ) (u : Tree) → b ≡ behavior.Allow
    → GoingFields start new s t kept fs (es ++ as_extra name u (Kept (extra_child child u)) ∷ []) → GoingFields start new s t kept fs (es ++ extra_by b child (name, u))
allowed_by start new s t kept fs es b child name u e h = subst (λ x. GoingFields start new s t kept fs (es ++ extra_by x child (name, u))) (sym e) h

-- the loop over the members
module _ {X Y : Type 0} (g : X → List Y) (p : X → Bool) (ms : List X) (i : ℕ) (m : X) (l : i < length ms) (here : m ≡ get_or ms i m) where
  one_more : filter p (take (i + 1) ms) ≡ filter p (take i ms) ++ filter p (m ∷ [])
  one_more =
      ap (filter p) (take_more ms i m l ∙ ap (λ x. take i ms ++ x ∷ []) (sym here)) ∙ filter-append p (take i ms) (m ∷ [])

  pub passed_more : p m ≡ true → flat_map g (filter p (take (i + 1) ms)) ≡ flat_map g (filter p (take i ms)) ++ g m
  passed_more e =
      ap (flat_map g) (one_more ∙ ap (λ b. filter p (take i ms) ++ cond b (m ∷ []) []) e) ∙ flat_more g (filter p (take i ms)) m

  pub failed_more : p m ≡ false → flat_map g (filter p (take (i + 1) ms)) ≡ flat_map g (filter p (take i ms))
  failed_more e =
      ap (flat_map g) (one_more ∙ ap (λ b. filter p (take i ms) ++ cond b (m ∷ []) []) e ∙ append-nil (filter p (take i ms)))

pub all_passed : {X Y : Type 0} (g : X → List Y) (p : X → Bool) (ms : List X) (i : ℕ) → length ms ≤ i → flat_map g (filter p (take i ms)) ≡ flat_map g (filter p ms)
all_passed g p ms i l = ap (λ xs. flat_map g (filter p xs)) (take_all i ms l)

-- what was told of the member at a place
at_index : {X : Type 0} (xs : List X) (i : ℕ) (d : X) → i < length xs → slice_get xs i ≡ Some (get_or xs i d)
at_index [] i d l = absurd (omega (arith, l))
at_index (x ∷ xs) zero d l = refl
at_index (x ∷ xs) (suc i) d l = at_index xs i d (omega (arith, l))

pub told_at : {X : Type 0} (p : X → Bool) (ms : List X) (i : ℕ) (m : X) (told : List Bool) (b : Bool)
    → i < length ms → m ≡ get_or ms i m → told ≡ map p ms → slice_get told i ≡ Some b → p m ≡ b
told_at p ms i m told b l here all at =
    ap p here ∙ sym (looked p (slice_get ms i) (get_or ms i m) b (at_index ms i m l) (sym (ap (λ xs. slice_get xs i) all ∙ slice_get-map p ms i) ∙ at))

pub passed_turn : {X : Type 0} (start out new : Out) (s : Settings) (t : Tree) (more kept : KeptParts) (fs : List Answered) (g : X → List Extra) (p : X → Bool) (ms : List X) (i : ℕ) (m : X)
    → i < length ms → m ≡ get_or ms i m → p m ≡ true → out ≡ new → more ≡ kept
    → GoingFields start new s t kept fs (flat_map g (filter p (take i ms)) ++ g m) → GoingFields start out s t more fs (flat_map g (filter p (take (i + 1) ms)))
passed_turn start out new s t more kept fs g p ms i m l here e a b h =
    subst (λ es. GoingFields start out s t more fs es) (sym (passed_more g p ms i m l here e))
    (subst (λ k. GoingFields start out s t k fs (flat_map g (filter p (take i ms)) ++ g m)) (sym b)
    (subst (λ o. GoingFields start o s t kept fs (flat_map g (filter p (take i ms)) ++ g m)) (sym a) h))

pub failed_turn : {X : Type 0} (start out new : Out) (s : Settings) (t : Tree) (more kept : KeptParts) (fs : List Answered) (g : X → List Extra) (p : X → Bool) (ms : List X) (i : ℕ) (m : X)
    → i < length ms → m ≡ get_or ms i m → p m ≡ false → out ≡ new → more ≡ kept
    → GoingFields start new s t kept fs (flat_map g (filter p (take i ms))) → GoingFields start out s t more fs (flat_map g (filter p (take (i + 1) ms)))
failed_turn start out new s t more kept fs g p ms i m l here e a b h =
    subst (λ es. GoingFields start out s t more fs es) (sym (failed_more g p ms i m l here e))
    (subst (λ k. GoingFields start out s t k fs (flat_map g (filter p (take i ms)))) (sym b)
    (subst (λ o. GoingFields start o s t kept fs (flat_map g (filter p (take i ms)))) (sym a) h))

pub last_turn : {X : Type 0} (start new : Out) (s : Settings) (t : Tree) (kept : KeptParts) (fs : List Answered) (g : X → List Extra) (p : X → Bool) (ms all : List X) (i : ℕ)
    → length ms ≤ i → all ≡ ms → GoingFields start new s t kept fs (flat_map g (filter p (take i ms))) → GoingFields start new s t kept fs (flat_map g (filter p all))
last_turn start new s t kept fs g p ms all i l same h =
    subst (λ es. GoingFields start new s t kept fs es) (all_passed g p ms i l ∙ ap (λ xs. flat_map g (filter p xs)) (sym same)) h

-- one more field, and the last one
module _ (start new : Out) (s : Settings) (t : Tree) (kept : KeptParts) (cs : List Child) (ds : List (Option Outcome)) (j : ℕ) (fs : List FieldRule) where
  pub field_turn : (f : FieldRule) → slice_get fs j ≡ Some f → GoingFields start new s t kept (take j (answers s t cs ds 0 fs) ++ answered s t cs ds j f ∷ []) []
      → GoingFields start new s t kept (take (j + 1) (answers s t cs ds 0 fs)) []
  field_turn f e h = subst (λ xs. GoingFields start new s t kept xs []) (sym (answers_next s t cs ds j fs f e)) h

  pub last_field : length fs ≤ j → GoingFields start new s t kept (take j (answers s t cs ds 0 fs)) [] → GoingFields start new s t kept (answers s t cs ds 0 fs) []
  last_field l h = subst (λ xs. GoingFields start new s t kept xs []) (answers_all s t cs ds j fs l) h

-- the end
abbrev whole_of : good.Good → Outcome
whole_of g = Good g.value g.grade g.fields

module _ (old new : Out) (r : FieldsRule) (s : Settings) (t : Tree) (kept : KeptParts) (fs : List Answered) (es : List Extra) (h : GoingFields old new s t kept fs es) where
  pub fields_bad : (length new.errors ≡ length old.errors → ⊥) → Walked old new None (fields_of r s t fs es)
  fields_bad more = walked_bad old new _ _ h.adds (failed_all r s t fs es (λ none. more (same_length old new _ h.adds none)))

  pub fields_good : (x : good.Good) → length new.errors ≡ length old.errors → x ≡ finished r.kind kept → Walked old new (Some x) (fields_of r s t fs es)
  fields_good x same is =
      let none : all_errors s t fs es ≡ [] = none_added old new _ h.adds same in
      walked_good old new x _ _ h.adds none (finished_all r s t fs es none ∙ ap whole_of (sym (is ∙ ap (finished r.kind) (h.whole none))))
