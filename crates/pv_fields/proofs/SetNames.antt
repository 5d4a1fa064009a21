-- The names in the set of a model.
use Rattle.std.proofs.Common.{◌≡◌, inl, inr, ℕ, false, List, [], ◌∷◌, ◌++◌, map, refl, sym, ap, subst, ◌∙◌, bytes_eq}
use Rattle.std.specs.Prelude.{Option}
use Rattle.std.specs.List.{flat_map, IsDistinct, AllByRecursion}
use Rattle.pv_tree.specs.declared.Tree.{Tree}
use Rattle.pv_tree.specs.declared.Value.{Value}
use Rattle.pv_tree.specs.declared.Value.TheVariants as value
use Rattle.pv_tree.specs.declared.Value.TheOpen.{Value-F}
use Rattle.pv_tree.specs.declared.Value.TheViews.{out-Value, out-roll-Value, rolls-Model, rolls-Dict}
use Rattle.pv_rules.specs.declared.FieldRule.{FieldRule}
use Rattle.pv_rules.specs.declared.FieldsKind.{FieldsKind}
use Rattle.pv_rules.specs.declared.FieldsKind.TheVariants as kind
use Rattle.pv_rules.specs.declared.FieldsRule.{FieldsRule}
use Rattle.pv_rules.specs.declared.Settings.{Settings}
use Rattle.pv_fault.specs.declared.Grade.{Grade}
use Rattle.pv_fault.specs.declared.LineError.{LineError}
use Rattle.pv_fault.specs.declared.Outcome.TheVariants.{Good, Bad}
use Rattle.pv_equality.specs.Merging.{merged_entries}
use Rattle.pv_fields.specs.FieldList.{FieldAnswer, Given, Defaulted, Missing, Absent, Answered, Extra, all_errors, extra_value, field_value, fields_of, given_names, name_if_given, text_entry, unless_errors, value_of}
use Rattle.pv_fields.specs.Sublists.{AreSome}

abbrev firsts : List (List ℕ × Value) → List (List ℕ)
firsts vs = map (λ v. v.0) vs

abbrev field_names : List Answered → List (List ℕ)
field_names fs = map (λ a. a.field.name) fs

skip : (xs : List (List ℕ)) (y : List ℕ) (ys : List (List ℕ)) → AreSome xs ys → AreSome xs (y ∷ ys)
skip [] y ys h = tt
skip (x ∷ xs) y ys h = inr h

keep : (x : List ℕ) (xs ys : List (List ℕ)) → AreSome xs ys → AreSome (x ∷ xs) (x ∷ ys)
keep x xs ys h = inl (refl, h)

-- one field more in front
given_by : (name : List ℕ) (a : FieldAnswer) (f : FieldRule) (ns : List (List ℕ)) (vs : List (List ℕ × Value)) → f.name ≡ name → AreSome ns (firsts vs)
    → AreSome (name_if_given f.name a ++ ns) (firsts (field_value (record { field = f; answer = a }) ++ vs))
given_by name (Given path (Good v g n)) f ns vs e h = keep f.name ns (firsts vs) h
given_by name (Given path (Bad es)) f ns vs e h = h
given_by name (Defaulted (Good v g n)) f ns vs e h = skip ns f.name (firsts vs) h
given_by name (Defaulted (Bad es)) f ns vs e h = h
given_by name Missing f ns vs e h = h
given_by name Absent f ns vs e h = h

given_among : (fs : List Answered) → AreSome (given_names fs) (firsts (flat_map field_value fs))
given_among [] = tt
given_among (a ∷ fs) = given_by a.field.name a.answer a.field (given_names fs) (flat_map field_value fs) refl (given_among fs)

-- the fields that have a value are some of the fields
value_by : (a : FieldAnswer) (f : FieldRule) (vs : List (List ℕ × Value)) (ns : List (List ℕ)) → AreSome (firsts vs) ns
    → AreSome (firsts (field_value (record { field = f; answer = a }) ++ vs)) (f.name ∷ ns)
value_by (Given path (Good v g n)) f vs ns h = keep f.name (firsts vs) ns h
value_by (Given path (Bad es)) f vs ns h = skip (firsts vs) f.name ns h
value_by (Defaulted (Good v g n)) f vs ns h = keep f.name (firsts vs) ns h
value_by (Defaulted (Bad es)) f vs ns h = skip (firsts vs) f.name ns h
value_by Missing f vs ns h = skip (firsts vs) f.name ns h
value_by Absent f vs ns h = skip (firsts vs) f.name ns h

values_among : (fs : List Answered) → AreSome (firsts (flat_map field_value fs)) (field_names fs)
values_among [] = tt
values_among (a ∷ fs) = value_by a.answer a.field (flat_map field_value fs) (field_names fs) (values_among fs)

-- some of distinct names are distinct
all_of_some : (P : List ℕ → Type 0) (xs ys : List (List ℕ)) → AreSome xs ys → AllByRecursion P ys → AllByRecursion P xs
all_of_some P [] ys h a = tt
all_of_some P (x ∷ xs) [] h a = absurd h
all_of_some P (x ∷ xs) (y ∷ ys) (inl h) a = (subst P (sym h.0) a.0, all_of_some P xs ys h.1 a.1)
all_of_some P (x ∷ xs) (y ∷ ys) (inr h) a = all_of_some P (x ∷ xs) ys h a.1

some_distinct : (xs ys : List (List ℕ)) → AreSome xs ys → IsDistinct bytes_eq ys → IsDistinct bytes_eq xs
unfolding IsDistinct
some_distinct [] ys h d = tt
some_distinct (x ∷ xs) [] h d = absurd h
some_distinct (x ∷ xs) (y ∷ ys) (inl h) d = (
  subst (λ n. AllByRecursion (λ z. bytes_eq n z ≡ false) xs) (sym h.0) (all_of_some (λ z. bytes_eq y z ≡ false) xs ys h.1 d.0),
  some_distinct xs ys h.1 d.1,
)
some_distinct (x ∷ xs) (y ∷ ys) (inr h) d = some_distinct (x ∷ xs) ys h d.1

-- what a model holds
given_in : Value-F Value → List (List ℕ)
given_in (Value-F.Model cls fields set extra) = set
given_in v = []

fields_in : Value-F Value → List (List ℕ)
fields_in (Value-F.Model cls fields set extra) = firsts fields
fields_in v = []

opens_model : (cls : List ℕ) (fields : List (List ℕ × Value)) (set : List (List ℕ)) (extra : List (List ℕ × Value))
    → out-Value (value.Model cls fields set extra) ≡ Value-F.Model cls fields set extra
opens_model cls fields set extra = ap out-Value (sym (rolls-Model cls fields set extra)) ∙ out-roll-Value (Value-F.Model cls fields set extra)

opens_dict : (es : List (Value × Value)) → out-Value (value.Dict es) ≡ Value-F.Dict es
opens_dict es = ap out-Value (sym (rolls-Dict es)) ∙ out-roll-Value (Value-F.Dict es)

-- of the fields with these names
module _ (names : List (List ℕ)) where
  abbrev IsAmong : Value-F Value → Type 0
  IsAmong v = AreSome (given_in v) (fields_in v) × AreSome (fields_in v) names

  among_by : (k : FieldsKind) (fields : List (List ℕ × Value)) (given : List (List ℕ)) (extra : List (List ℕ × Value))
      → AreSome given (firsts fields) × AreSome (firsts fields) names → IsAmong (out-Value (value_of k fields given extra))
  unfolding given_in fields_in
  among_by kind.Model fields given extra h = subst IsAmong (sym (opens_model [] fields given extra)) h
  among_by kind.TypedDict fields given extra h = subst IsAmong (sym (opens_dict (merged_entries (map text_entry (fields ++ extra))))) (tt, tt)

  held : (v : Value) (cls : List ℕ) (fields : List (List ℕ × Value)) (set : List (List ℕ)) (extra : List (List ℕ × Value)) → v ≡ value.Model cls fields set extra
      → IsAmong (out-Value v) → AreSome set (firsts fields) × AreSome (firsts fields) names
  unfolding given_in fields_in
  held v cls fields set extra e h = subst IsAmong (ap out-Value e ∙ opens_model cls fields set extra) h

good_inside : (v w : Value) (g h : Grade) (m n : Option ℕ) → Good v g m ≡ Good w h n → v ≡ w
good_inside v w g h m n e = cc

unless_good : (xs : List LineError) (v w : Value) (g h : Grade) (m n : Option ℕ) → unless_errors xs (Good v g m) ≡ Good w h n → v ≡ w
unless_good [] v w g h m n e = good_inside v w g h m n e
unless_good (x ∷ xs) v w g h m n e = cc

module _ (r : FieldsRule) (s : Settings) (t : Tree) (fs : List Answered) (es : List Extra)
    (cls : List ℕ) (fields : List (List ℕ × Value)) (set : List (List ℕ)) (extra : List (List ℕ × Value)) (g : Grade) (n : Option ℕ)
    (e : fields_of r s t fs es ≡ Good (value.Model cls fields set extra) g n) where
  both : AreSome set (firsts fields) × AreSome (firsts fields) (field_names fs)
  unfolding fields_of
  both =
      held (field_names fs) _ cls fields set extra (unless_good (all_errors s t fs es) _ (value.Model cls fields set extra) _ g _ n e)
      (among_by (field_names fs) r.kind (flat_map field_value fs) (given_names fs) (flat_map extra_value es) (given_among fs, values_among fs))

  pub set_among : AreSome set (firsts fields)
  set_among = both.0

  pub fields_among : AreSome (firsts fields) (field_names fs)
  fields_among = both.1

  pub set_distinct : IsDistinct bytes_eq (field_names fs) → IsDistinct bytes_eq set
  set_distinct d = some_distinct set (firsts fields) both.0 (some_distinct (firsts fields) (field_names fs) both.1 d)
