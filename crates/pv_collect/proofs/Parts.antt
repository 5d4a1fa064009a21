-- One more part: its errors, and what is kept with it.
use Rattle.std.proofs.Common.{◌≡◌, ℕ, ◌+◌, List, [], ◌∷◌, ◌++◌, length, refl, sym, ap, ◌∙◌, append-nil, append_assoc, arith}
use Rattle.std.specs.Prelude.{Option}
use Rattle.std.specs.List.{flat_map}
use Rattle.std.proofs.lemmas.Grind.{flat_map-append}
use Rattle.pv_tree.specs.declared.Step.{Step}
use Rattle.pv_tree.specs.declared.Step.TheVariants.{Index}
use Rattle.pv_rules.specs.declared.Collection.{Collection}
use Rattle.pv_fault.specs.declared.Grade.{Grade}
use Rattle.pv_fault.specs.declared.LineError.{LineError}
use Rattle.pv_fault.specs.declared.Outcome.{Outcome}
use Rattle.pv_fault.specs.declared.Outcome.TheVariants.{Good, Bad}
use Rattle.pv_fault.specs.Grades.{least_of}
use Rattle.pv_fault.specs.Counts.{sum_of}
use Rattle.pv_fault.specs.Under.{all_under}
use Rattle.pv_fault.proofs.Sums.{least_more, sum_of_more}
use Rattle.pv_collect.specs.Gathering.{Part, Pair, item_errors, items_errors, pair_errors, outcomes_in, values_of, grades_of, counts_of, both_in, entry_of, entries_of}
use Rattle.pv_collect.specs.Kept.{Kept, good_of, found_in, entry_in, grade_with, count_with, item_kept, entry_kept, kept_of_items, kept_of_pairs}

-- errors
errors_more : (k : Collection) (i n : ℕ) (ps : List Part) (p : Part) → n ≡ i + length ps
    → items_errors k i (ps ++ p ∷ []) ≡ items_errors k i ps ++ all_under (Index n) (item_errors k p.input p.outcome)
errors_more k i n [] p e =
    let same : i ≡ n = omega arith in
    append-nil (all_under (Index i) (item_errors k p.input p.outcome)) ∙ ap (λ j. all_under (Index j) (item_errors k p.input p.outcome)) same
errors_more k i n (q ∷ ps) p e =
    let first : List LineError = all_under (Index i) (item_errors k q.input q.outcome) in
    ap (λ more. first ++ more) (errors_more k (i + 1) n ps p (omega arith)) ∙ sym (append_assoc first (items_errors k (i + 1) ps) _)

pub item_errors_more : (k : Collection) (ps : List Part) (p : Part)
    → items_errors k 0 (ps ++ p ∷ []) ≡ items_errors k 0 ps ++ all_under (Index (length ps)) (item_errors k p.input p.outcome)
item_errors_more k ps p = errors_more k 0 (length ps) ps p (omega arith)

pub pair_errors_more : (ps : List Pair) (p : Pair) → flat_map pair_errors (ps ++ p ∷ []) ≡ flat_map pair_errors ps ++ pair_errors p
pair_errors_more ps p = flat_map-append pair_errors ps (p ∷ []) ∙ ap (λ es. flat_map pair_errors ps ++ es) (append-nil (pair_errors p))

-- no errors at all are none of each part
pub empty_first : (es fs : List LineError) → es ++ fs ≡ [] → es ≡ []
empty_first [] fs h = refl
empty_first (e ∷ es) fs h = cc

pub empty_second : (es fs : List LineError) → es ++ fs ≡ [] → fs ≡ []
empty_second [] fs h = h
empty_second (e ∷ es) fs h = cc

pub empty_under : (s : Step) (es : List LineError) → all_under s es ≡ [] → es ≡ []
empty_under s [] h = refl
empty_under s (e ∷ es) h = cc

-- what is kept
outcomes_more : (ps : List Part) (p : Part) → outcomes_in (ps ++ p ∷ []) ≡ outcomes_in ps ++ p.outcome ∷ []
outcomes_more [] p = refl
outcomes_more (q ∷ ps) p = ap (λ os. q.outcome ∷ os) (outcomes_more ps p)

values_more : (os : List Outcome) (o : Outcome) → values_of (os ++ o ∷ []) ≡ values_of os ++ values_of (o ∷ [])
values_more [] o = refl
values_more (Good v g n ∷ os) o = ap (λ vs. v ∷ vs) (values_more os o)
values_more (Bad es ∷ os) o = values_more os o

grades_more : (os : List Outcome) (o : Outcome) → grades_of (os ++ o ∷ []) ≡ grades_of os ++ grades_of (o ∷ [])
grades_more [] o = refl
grades_more (Good v g n ∷ os) o = ap (λ gs. g ∷ gs) (grades_more os o)
grades_more (Bad es ∷ os) o = grades_more os o

counts_more : (os : List Outcome) (o : Outcome) → counts_of (os ++ o ∷ []) ≡ counts_of os ++ counts_of (o ∷ [])
counts_more [] o = refl
counts_more (Good v g n ∷ os) o = ap (λ ns. n ∷ ns) (counts_more os o)
counts_more (Bad es ∷ os) o = counts_more os o

grade_more : (own : Grade) (os : List Outcome) (o : Outcome) → least_of own (grades_of (os ++ o ∷ [])) ≡ grade_with (least_of own (grades_of os)) (good_of o)
grade_more own os (Good v g n) = ap (least_of own) (grades_more os (Good v g n)) ∙ least_more own g (grades_of os)
grade_more own os (Bad es) = ap (least_of own) (grades_more os (Bad es) ∙ append-nil (grades_of os))

count_more : (os : List Outcome) (o : Outcome) → sum_of (counts_of (os ++ o ∷ [])) ≡ count_with (sum_of (counts_of os)) (good_of o)
count_more os (Good v g n) = ap sum_of (counts_more os (Good v g n)) ∙ sum_of_more n (counts_of os)
count_more os (Bad es) = ap sum_of (counts_more os (Bad es) ∙ append-nil (counts_of os))

one_value : (o : Outcome) → values_of (o ∷ []) ≡ found_in (good_of o)
one_value (Good v g n) = refl
one_value (Bad es) = refl

one_entry : (k v : Outcome) → entry_of k v ≡ entry_in (good_of k) (good_of v)
one_entry (Good k g m) (Good v h n) = refl
one_entry (Good k g m) (Bad es) = refl
one_entry (Bad es) v = refl

same_kept : {X : Type 0} (vs ws : List X) (g h : Grade) (m n : Option ℕ) → vs ≡ ws → g ≡ h → m ≡ n
    → (let x : Kept X = record { values = vs; grade = g; count = m } in x) ≡ record { values = ws; grade = h; count = n }
same_kept vs ws g h m n p q r = cc

outcome_kept : (own : Grade) (os : List Outcome) (o : Outcome) → kept_of_items own (os ++ o ∷ []) ≡ item_kept (kept_of_items own os) (good_of o)
outcome_kept own os o = same_kept _ _ _ _ _ _ (values_more os o ∙ ap (λ vs. values_of os ++ vs) (one_value o)) (grade_more own os o) (count_more os o)

pub item_kept_more : (own : Grade) (ps : List Part) (p : Part)
    → kept_of_items own (outcomes_in (ps ++ p ∷ [])) ≡ item_kept (kept_of_items own (outcomes_in ps)) (good_of p.outcome)
item_kept_more own ps p = ap (kept_of_items own) (outcomes_more ps p) ∙ outcome_kept own (outcomes_in ps) p.outcome

both_more : (ps : List Pair) (p : Pair) → both_in (ps ++ p ∷ []) ≡ (both_in ps ++ p.key ∷ []) ++ p.value ∷ []
both_more [] p = refl
both_more (q ∷ ps) p = ap (λ os. q.key ∷ q.value ∷ os) (both_more ps p)

entries_more : (ps : List Pair) (p : Pair) → entries_of (ps ++ p ∷ []) ≡ entries_of ps ++ entry_of p.key p.value
entries_more [] p = append-nil (entry_of p.key p.value)
entries_more (q ∷ ps) p =
    ap (λ es. entry_of q.key q.value ++ es) (entries_more ps p) ∙ sym (append_assoc (entry_of q.key q.value) (entries_of ps) _)

pub entry_kept_more : (own : Grade) (ps : List Pair) (p : Pair) → kept_of_pairs own (ps ++ p ∷ []) ≡ entry_kept (kept_of_pairs own ps) (good_of p.key) (good_of p.value)
entry_kept_more own ps p =
    same_kept _ _ _ _ _ _
    (entries_more ps p ∙ ap (λ es. entries_of ps ++ es) (one_entry p.key p.value))
    (ap (λ os. least_of own (grades_of os)) (both_more ps p) ∙ grade_more own (both_in ps ++ p.key ∷ []) p.value ∙ ap (λ x. grade_with x (good_of p.value)) (grade_more own (both_in ps) p.key))
    (ap (λ os. sum_of (counts_of os)) (both_more ps p) ∙ count_more (both_in ps ++ p.key ∷ []) p.value ∙ ap (λ x. count_with x (good_of p.value)) (count_more (both_in ps) p.key))
