-- One more field, or one more extra member: its errors, and what is kept with it.
use Rattle.std.proofs.Common.{◌≡◌, ℕ, ◌+◌, min, sum, fold, List, [], ◌∷◌, ◌++◌, length, refl, sym, ap, ◌∙◌, append-nil, append_assoc, arith}
use Rattle.std.specs.Prelude.{Option, Some}
use Rattle.std.specs.List.{flat_map}
use Rattle.std.proofs.lemmas.Grind.{flat_map-append}
use Rattle.pv_tree.specs.declared.Tree.{Tree}
use Rattle.pv_tree.specs.declared.Value.{Value}
use Rattle.pv_rules.specs.declared.FieldRule.{FieldRule}
use Rattle.pv_rules.specs.declared.FieldsRule.{FieldsRule}
use Rattle.pv_rules.specs.declared.Settings.{Settings}
use Rattle.pv_fault.specs.declared.Good as good
use Rattle.pv_fault.specs.declared.Grade.{Grade}
use Rattle.pv_fault.specs.declared.Grade.TheVariants as grade
use Rattle.pv_fault.specs.declared.LineError.{LineError}
use Rattle.pv_fault.specs.declared.Outcome.{Outcome}
use Rattle.pv_fault.specs.declared.Outcome.TheVariants.{Good, Bad}
use Rattle.pv_fault.specs.Grades.{least_of}
use Rattle.pv_fault.specs.Counts.{last_count, present, stopped_sum, sum_of, sum_of_two}
use Rattle.pv_fault.proofs.Sums.{least_more, sum_of_more}
use Rattle.pv_fields.specs.FieldList.{Answered, Extra, Given, Defaulted, Missing, Absent, Kept, Forbidden, all_errors, all_outcomes, answer_outcome, extra_errors, extra_outcome, extra_value, field_errors, field_value, fields_of, given_names, grade_in, count_in, name_if_given, name_under, named_value, unless_errors, value_of}
use Rattle.pv_fields.specs.Kept.{KeptParts, default_kept, extra_kept, finished, found_under, given_kept, good_of, grade_with, count_with, kept_of, nothing_kept}

-- errors
pub field_errors_more : (s : Settings) (t : Tree) (fs : List Answered) (a : Answered) → all_errors s t (fs ++ a ∷ []) [] ≡ all_errors s t fs [] ++ field_errors s t a
field_errors_more s t fs a =
    append-nil (flat_map (field_errors s t) (fs ++ a ∷ [])) ∙ flat_map-append (field_errors s t) fs (a ∷ [])
    ∙ ap (λ es. flat_map (field_errors s t) fs ++ es) (append-nil (field_errors s t a))
    ∙ ap (λ es. es ++ field_errors s t a) (sym (append-nil (flat_map (field_errors s t) fs)))

pub extra_errors_more : (s : Settings) (t : Tree) (fs : List Answered) (es : List Extra) (e : Extra)
    → all_errors s t fs (es ++ e ∷ []) ≡ all_errors s t fs es ++ extra_errors e
extra_errors_more s t fs es e =
    ap (λ xs. flat_map (field_errors s t) fs ++ xs) (flat_map-append extra_errors es (e ∷ []) ∙ ap (λ xs. flat_map extra_errors es ++ xs) (append-nil (extra_errors e)))
    ∙ sym (append_assoc (flat_map (field_errors s t) fs) (flat_map extra_errors es) (extra_errors e))

-- the outcomes of the parts
abbrev field_outcomes : List Answered → List Outcome
field_outcomes fs = flat_map (λ a. answer_outcome a.answer) fs

abbrev extra_outcomes : List Extra → List Outcome
extra_outcomes es = flat_map (λ e. extra_outcome e.answer) es

field_outcome_more : (fs : List Answered) (a : Answered) → all_outcomes (fs ++ a ∷ []) [] ≡ all_outcomes fs [] ++ answer_outcome a.answer
field_outcome_more fs a =
    append-nil (field_outcomes (fs ++ a ∷ [])) ∙ flat_map-append (λ x. answer_outcome x.answer) fs (a ∷ [])
    ∙ ap (λ os. field_outcomes fs ++ os) (append-nil (answer_outcome a.answer)) ∙ ap (λ os. os ++ answer_outcome a.answer) (sym (append-nil (field_outcomes fs)))

extra_outcome_more : (fs : List Answered) (es : List Extra) (e : Extra) → all_outcomes fs (es ++ e ∷ []) ≡ all_outcomes fs es ++ extra_outcome e.answer
extra_outcome_more fs es e =
    ap (λ os. field_outcomes fs ++ os)
    (flat_map-append (λ x. extra_outcome x.answer) es (e ∷ []) ∙ ap (λ os. extra_outcomes es ++ os) (append-nil (extra_outcome e.answer)))
    ∙ sym (append_assoc (field_outcomes fs) (extra_outcomes es) (extra_outcome e.answer))

-- their grade and their count
abbrev grade_of : List Outcome → Grade
grade_of os = least_of grade.Exact (flat_map grade_in os)

abbrev count_of : List Outcome → Option ℕ
count_of os = sum_of (flat_map count_in os)

grade_one : (os : List Outcome) (o : Outcome) → grade_of (os ++ o ∷ []) ≡ grade_with (grade_of os) (good_of o)
grade_one os (Good v g n) = ap (least_of grade.Exact) (flat_map-append grade_in os (Good v g n ∷ [])) ∙ least_more grade.Exact g (flat_map grade_in os)
grade_one os (Bad es) = ap (least_of grade.Exact) (flat_map-append grade_in os (Bad es ∷ []) ∙ append-nil (flat_map grade_in os))

count_one : (os : List Outcome) (o : Outcome) → count_of (os ++ o ∷ []) ≡ count_with (count_of os) (good_of o)
count_one os (Good v g n) = ap sum_of (flat_map-append count_in os (Good v g n ∷ [])) ∙ sum_of_more n (flat_map count_in os)
count_one os (Bad es) = ap sum_of (flat_map-append count_in os (Bad es ∷ []) ∙ append-nil (flat_map count_in os))

-- their values
one_value : (name : List ℕ) (o : Outcome) → flat_map (named_value name) (o ∷ []) ≡ found_under name (good_of o)
one_value name (Good v g n) = refl
one_value name (Bad es) = refl

abbrev kept_as : List (List ℕ × Value) → List (List ℕ) → List (List ℕ × Value) → Grade → Option ℕ → KeptParts
kept_as fields given extra g n = record { fields = fields; given = given; extra = extra; grade = g; count = n }

same_kept : (vs ws : List (List ℕ × Value)) (xs ys : List (List ℕ)) (us zs : List (List ℕ × Value)) (g h : Grade) (m n : Option ℕ)
    → vs ≡ ws → xs ≡ ys → us ≡ zs → g ≡ h → m ≡ n → kept_as vs xs us g m ≡ kept_as ws ys zs h n
same_kept vs ws xs ys us zs g h m n p q r s t = cc

-- one more field
module _ (fs : List Answered) (f : FieldRule) where
  abbrev with : Answered → List Answered
  with a = fs ++ a ∷ []

  values_more : (a : Answered) → flat_map field_value (with a) ≡ flat_map field_value fs ++ field_value a
  values_more a = flat_map-append field_value fs (a ∷ []) ∙ ap (λ vs. flat_map field_value fs ++ vs) (append-nil (field_value a))

  abbrev given_as : ℕ → Outcome → Answered
  given_as path o = record { field = f; answer = Given path o }

  abbrev defaulted_as : Outcome → Answered
  defaulted_as o = record { field = f; answer = Defaulted o }

  abbrev missing_as : Answered
  missing_as = record { field = f; answer = Missing }

  abbrev absent_as : Answered
  absent_as = record { field = f; answer = Absent }

  -- that was found
  pub given_more : (path : ℕ) (o : Outcome) → kept_of (with (given_as path o)) [] ≡ given_kept (kept_of fs []) f.name (good_of o)
  given_more path o =
      let a = given_as path o in
      same_kept _ _ _ _ _ _ _ _ _ _ (values_more a ∙ ap (λ vs. flat_map field_value fs ++ vs) (one_value f.name o))
      (flat_map-append (λ x. name_if_given x.field.name x.answer) fs (a ∷ []) ∙ ap (λ ns. given_names fs ++ ns) (append-nil (name_under f.name (good_of o)))) refl
      (ap grade_of (field_outcome_more fs a) ∙ grade_one (all_outcomes fs []) o) (ap count_of (field_outcome_more fs a) ∙ count_one (all_outcomes fs []) o)

  -- that has a default
  pub defaulted_more : (o : Outcome) → kept_of (with (defaulted_as o)) [] ≡ default_kept (kept_of fs []) f.name (good_of o)
  defaulted_more o =
      let a = defaulted_as o in
      same_kept _ _ _ _ _ _ _ _ _ _ (values_more a ∙ ap (λ vs. flat_map field_value fs ++ vs) (one_value f.name o))
      (flat_map-append (λ x. name_if_given x.field.name x.answer) fs (a ∷ []) ∙ append-nil (given_names fs)) refl
      (ap grade_of (field_outcome_more fs a) ∙ grade_one (all_outcomes fs []) o) (ap count_of (field_outcome_more fs a) ∙ count_one (all_outcomes fs []) o)

  -- that is missing, and that is absent
  nothing_more : (a : Answered) → field_value a ≡ [] → name_if_given a.field.name a.answer ≡ [] → answer_outcome a.answer ≡ [] → kept_of (with a) [] ≡ kept_of fs []
  nothing_more a no_value no_name no_outcome =
      let outcomes : all_outcomes (with a) [] ≡ all_outcomes fs [] =
      field_outcome_more fs a ∙ ap (λ os. all_outcomes fs [] ++ os) no_outcome ∙ append-nil (all_outcomes fs []) in
      same_kept _ _ _ _ _ _ _ _ _ _ (values_more a ∙ ap (λ vs. flat_map field_value fs ++ vs) no_value ∙ append-nil (flat_map field_value fs))
      (flat_map-append (λ x. name_if_given x.field.name x.answer) fs (a ∷ []) ∙ ap (λ ns. given_names fs ++ (ns ++ [])) no_name ∙ append-nil (given_names fs)) refl
      (ap grade_of outcomes) (ap count_of outcomes)

  pub missing_more : kept_of (with missing_as) [] ≡ kept_of fs []
  missing_more = nothing_more missing_as refl refl refl

  pub absent_more : kept_of (with absent_as) [] ≡ kept_of fs []
  absent_more = nothing_more absent_as refl refl refl

-- one more extra member
module _ (fs : List Answered) (es : List Extra) (name : List ℕ) (t : Tree) where
  abbrev kept_extra : Outcome → Extra
  kept_extra o = record { name = name; input = t; answer = Kept o }

  abbrev forbidden_extra : Extra
  forbidden_extra = record { name = name; input = t; answer = Forbidden }

  extra_values_more : (e : Extra) → flat_map extra_value (es ++ e ∷ []) ≡ flat_map extra_value es ++ extra_value e
  extra_values_more e = flat_map-append extra_value es (e ∷ []) ∙ ap (λ vs. flat_map extra_value es ++ vs) (append-nil (extra_value e))

  pub extra_more : (o : Outcome) → kept_of fs (es ++ kept_extra o ∷ []) ≡ extra_kept (kept_of fs es) name (good_of o)
  extra_more o =
      let e = kept_extra o in
      same_kept _ _ _ _ _ _ _ _ _ _ refl refl (extra_values_more e ∙ ap (λ vs. flat_map extra_value es ++ vs) (one_value name o))
      (ap grade_of (extra_outcome_more fs es e) ∙ grade_one (all_outcomes fs es) o) (ap count_of (extra_outcome_more fs es e) ∙ count_one (all_outcomes fs es) o)

  pub forbidden_more : kept_of fs (es ++ forbidden_extra ∷ []) ≡ kept_of fs es
  forbidden_more =
      let outcomes : all_outcomes fs (es ++ forbidden_extra ∷ []) ≡ all_outcomes fs es = extra_outcome_more fs es forbidden_extra ∙ append-nil (all_outcomes fs es) in
      same_kept _ _ _ _ _ _ _ _ _ _ refl refl (extra_values_more forbidden_extra ∙ append-nil (flat_map extra_value es)) (ap grade_of outcomes) (ap count_of outcomes)

-- before the first field
pub kept_none : kept_of [] [] ≡ nothing_kept
kept_none = refl

-- after the last part: the number of fields that were found is counted first
fold_from : (a b : ℕ) (ns : List ℕ) → fold ◌+◌ (a + b) ns ≡ a + fold ◌+◌ b ns
fold_from a b [] = refl
fold_from a b (n ∷ ns) = let one : a + b + n ≡ a + (b + n) = omega arith in ap (λ m. fold ◌+◌ m ns) one ∙ fold_from a (b + n) ns

stop_in : (a s last : ℕ) → min (a + s) last ≡ min (0 + a + min s last) last
stop_in a s last = omega arith

sum_front : (n : ℕ) (ns : List ℕ) → stopped_sum (n ∷ ns) ≡ sum_of_two (Some n) (stopped_sum ns)
sum_front n [] = refl
sum_front n (m ∷ ns) =
    let front : 0 + n + m ≡ n + (0 + m) = omega arith in
    ap Some (ap (λ x. min (fold ◌+◌ x ns) last_count) front ∙ ap (λ x. min x last_count) (fold_from n (0 + m) ns) ∙ stop_in n (sum (m ∷ ns)) last_count)

count_front : (n : ℕ) (cs : List (Option ℕ)) → sum_of (Some n ∷ cs) ≡ sum_of_two (Some n) (sum_of cs)
count_front n cs = sum_front n (present cs)

abbrev outcome_of : good.Good → Outcome
outcome_of g = Good g.value g.grade g.fields

pub finished_all : (r : FieldsRule) (s : Settings) (t : Tree) (fs : List Answered) (es : List Extra) → all_errors s t fs es ≡ []
    → fields_of r s t fs es ≡ outcome_of (finished r.kind (kept_of fs es))
unfolding fields_of finished
finished_all r s t fs es none =
    let os = all_outcomes fs es in
    let given = given_names fs in
    ap (λ xs. unless_errors xs (Good (value_of r.kind (flat_map field_value fs) given (flat_map extra_value es)) (grade_of os) (sum_of (Some (length given) ∷ flat_map count_in os)))) none
    ∙ ap (Good (value_of r.kind (flat_map field_value fs) given (flat_map extra_value es)) (grade_of os)) (count_front (length given) (flat_map count_in os))

bad_by : (xs : List LineError) (o : Outcome) → (xs ≡ [] → ⊥) → unless_errors xs o ≡ Bad xs
bad_by [] o some = absurd (some refl)
bad_by (x ∷ xs) o some = refl

pub failed_all : (r : FieldsRule) (s : Settings) (t : Tree) (fs : List Answered) (es : List Extra) → (all_errors s t fs es ≡ [] → ⊥)
    → fields_of r s t fs es ≡ Bad (all_errors s t fs es)
unfolding fields_of
failed_all r s t fs es some = bad_by (all_errors s t fs es) _ some
