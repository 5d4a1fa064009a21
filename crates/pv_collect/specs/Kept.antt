-- What is kept of the parts of a collection while none of them failed, and what it makes.
use Rattle.std.specs.Prelude.{ℕ, List, [], ◌∷◌, ◌++◌, length, Option, None, Some, Result, Ok, Err}
use Rattle.pv_tree.specs.declared.Value.{Value}
use Rattle.pv_tree.specs.declared.Value.TheVariants as value
use Rattle.pv_rules.specs.declared.Collection.{Collection}
use Rattle.pv_rules.specs.declared.GatherRule.{GatherRule}
use Rattle.pv_fault.specs.declared.Grade.{Grade}
use Rattle.pv_fault.specs.declared.Kind.{Kind}
use Rattle.pv_fault.specs.declared.Good.{Good}
use Rattle.pv_fault.specs.declared.Outcome.{Outcome}
use Rattle.pv_fault.specs.declared.Outcome.TheVariants as outcome
use Rattle.pv_fault.specs.Grades.{least, least_of}
use Rattle.pv_fault.specs.Counts.{sum_of, sum_of_two}
use Rattle.pv_equality.specs.Merging.{merged_entries}
use Rattle.pv_collect.specs.Gathering.{Pair, own_grade, both_in, values_of, grades_of, counts_of, entries_of, kept, made_of, length_fault}

-- values or entries, and the grade and the count of fields of the whole
pub record Kept (X : Type 0) : Type 0 where
  pub values : List X
  pub grade : Grade
  pub count : Option ℕ

-- the success of an outcome
abbrev pub good_of : Outcome → Option Good
good_of (outcome.Good v g n) = Some (record { value = v; grade = g; fields = n })
good_of (outcome.Bad es) = None

-- before the first part
abbrev pub nothing_kept : {X : Type 0} → Collection → Kept X
nothing_kept kind = record { values = []; grade = own_grade kind; count = None }

-- the values that were found
abbrev pub found_in : Option Good → List Value
found_in None = []
found_in (Some g) = g.value ∷ []

-- the entry of a key and a value, where both were found
abbrev pub entry_in : Option Good → Option Good → List (Value × Value)
entry_in (Some key) (Some v) = (key.value, v.value) ∷ []
entry_in (Some key) None = []
entry_in None v = []

-- a grade with that of what was found
abbrev pub grade_with : Grade → Option Good → Grade
grade_with grade None = grade
grade_with grade (Some g) = least grade g.grade

-- a count with that of what was found
abbrev pub count_with : Option ℕ → Option Good → Option ℕ
count_with count None = count
count_with count (Some g) = sum_of_two count g.fields

-- with one more item
abbrev pub item_kept : Kept Value → Option Good → Kept Value
item_kept k found = record {
  values = k.values ++ found_in found;
  grade = grade_with k.grade found;
  count = count_with k.count found;
}

-- with the key and the value of one more member
abbrev pub entry_kept : Kept (Value × Value) → Option Good → Option Good
    → Kept (Value × Value)
entry_kept k key v = record {
  values = k.values ++ entry_in key v;
  grade = grade_with (grade_with k.grade key) v;
  count = count_with (count_with k.count key) v;
}

-- what is kept of items with these outcomes
abbrev pub kept_of_items : Grade → List Outcome → Kept Value
kept_of_items own os = record {
  values = values_of os;
  grade = least_of own (grades_of os);
  count = sum_of (counts_of os);
}

-- what is kept of members
abbrev pub kept_of_pairs : Grade → List Pair → Kept (Value × Value)
kept_of_pairs own ps = record {
  values = entries_of ps;
  grade = least_of own (grades_of (both_in ps));
  count = sum_of (counts_of (both_in ps));
}

-- a success, or what its length makes wrong
abbrev pub fitting : Option Kind → Good → Result Good Kind
fitting None good = Ok good
fitting (Some fault) good = Err fault

-- the collection of the kept values of an array of so many items
unfoldable pub finished_items : GatherRule → ℕ → Kept Value → Result Good Kind
finished_items r items k =
    let vs = kept r.kind k.values in
    fitting (length_fault r items (length vs))
    (record { value = made_of r.kind vs; grade = k.grade; fields = k.count })

-- the dict of the kept entries
unfoldable pub finished_entries : GatherRule → Kept (Value × Value) → Result Good Kind
finished_entries r k =
    let es = merged_entries k.values in
    fitting (length_fault r (length es) (length es))
    (record { value = value.Dict es; grade = k.grade; fields = k.count })
