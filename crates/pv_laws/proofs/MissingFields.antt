-- Each missing field is told.
use Rattle.std.proofs.Common.{◌≡◌, ℕ, zero, suc, ◌+◌, ◌<◌, Bool, true, false, List, [], ◌∷◌, ◌++◌, flat_map, length, Option, None, Some, slice_get, slice_index_or, Contains, refl, sym, ap, ◌∙◌, subst, arith}
use Rattle.pv_tree.specs.declared.Tree.{Tree, out-Tree}
use Rattle.pv_tree.specs.declared.Step.{Step}
use Rattle.pv_tree.specs.Parts.{members_at}
use Rattle.pv_rules.specs.declared.FieldRule.{FieldRule}
use Rattle.pv_rules.specs.declared.FieldsRule.{FieldsRule}
use Rattle.pv_rules.specs.declared.Settings.{Settings}
use Rattle.pv_fault.specs.declared.LineError.{LineError}
use Rattle.pv_fault.specs.declared.Outcome.{Outcome}
use Rattle.pv_fields.specs.Paths.{paths_of, path_or_name, located, place_of, extra_of}
use Rattle.pv_paths.specs.Following.{follow, found, found_by, found_from}
use Rattle.pv_fields.specs.Finding.{found_field, extras_in}
use Rattle.pv_fields.specs.FieldList.{Missing, answer_errors, field_errors, extra_errors, unless_errors, fields_of}
use Rattle.pv_walk.specs.Rules.{Child}
use Rattle.pv_walk.specs.Fields.{answer_of, child_or_none, default_or_none, answered, answers, extras_of, fields_in, fields}
use Rattle.pv_laws.specs.Locations.{is_any_path}
use Rattle.pv_laws.specs.MissingFields.{HasError, IsMissing, missing_error}

front_at : (es fs : List LineError) (e : LineError) (i : ℕ) → i < length es → slice_index_or es i e ≡ e → Contains (es ++ fs) e
front_at [] fs e i l h = absurd (omega (arith, l))
front_at (x ∷ es) fs e zero l h = (zero, omega arith, h)
front_at (x ∷ es) fs e (suc i) l h = let c = front_at es fs e i (omega (arith, l)) h in (suc c.0, omega (arith, c.1), c.2)

in_front : (es fs : List LineError) (e : LineError) → Contains es e → Contains (es ++ fs) e
in_front es fs e c = front_at es fs e c.0 c.1 c.2

behind : (es fs : List LineError) (e : LineError) → Contains fs e → Contains (es ++ fs) e
behind [] fs e c = c
behind (x ∷ es) fs e c = let d = behind es fs e c in (suc d.0, omega (arith, d.1), d.2)

alone : (e : LineError) → Contains (e ∷ []) e
alone e = (zero, omega arith, refl)

is_missing : (required : Bool) (child : Child) (default : Option Outcome) (o : Option (ℕ × Tree)) → required ≡ true → default ≡ None → o ≡ None → answer_of required child default o ≡ Missing
is_missing true child None None a b c = refl
is_missing false child None None a b c = cc
is_missing required child (Some d) None a b c = cc
is_missing required child default (Some hit) a b c = cc

module _ (s : Settings) (t : Tree) (children : List Child) (defaults : List (Option Outcome)) where
  told_here : (i : ℕ) (f : FieldRule) → f.required ≡ true → default_or_none (slice_get defaults i) ≡ None → found_field s t f ≡ None
      → Contains (field_errors s t (answered s t children defaults i f)) (missing_error s t f)
  told_here i f required default none =
      subst (λ a. Contains (answer_errors s t f a) (missing_error s t f))
      (sym (is_missing f.required (child_or_none (slice_get children i)) (default_or_none (slice_get defaults i)) (found_field s t f) required default none))
      (alone (missing_error s t f))

  told_from : (i j k : ℕ) (fs : List FieldRule) (f : FieldRule) → k ≡ i + j → slice_get fs j ≡ Some f → f.required ≡ true → default_or_none (slice_get defaults k) ≡ None → found_field s t f ≡ None
      → Contains (flat_map (field_errors s t) (answers s t children defaults i fs)) (missing_error s t f)
  told_from i j k [] f at here required default none = cc
  told_from i zero k (g ∷ fs) f at here required default none =
      let same : g ≡ f = cc in
      let number : k ≡ i = omega (arith, at) in
      in_front (field_errors s t (answered s t children defaults i g)) (flat_map (field_errors s t) (answers s t children defaults (i + 1) fs)) (missing_error s t f)
      (subst (λ x. Contains (field_errors s t (answered s t children defaults i x)) (missing_error s t f)) (sym same)
      (told_here i f required (ap (λ n. default_or_none (slice_get defaults n)) (sym number) ∙ default) none))
  told_from i (suc j) k (g ∷ fs) f at here required default none =
      behind (field_errors s t (answered s t children defaults i g)) (flat_map (field_errors s t) (answers s t children defaults (i + 1) fs)) (missing_error s t f)
      (told_from (i + 1) j k fs f (omega (arith, at)) here required default none)

not_good : (es : List LineError) (whole : Outcome) (e : LineError) → Contains es e → HasError e (unless_errors es whole)
not_good [] whole e c = absurd (omega (arith, c.1))
not_good (x ∷ es) whole e c = c

module _ (r : FieldsRule) (s : Settings) (children : List Child) (defaults : List (Option Outcome)) (t : Tree) (i : ℕ) (f : FieldRule) (m : IsMissing s r.fields defaults t i f) where
  told_of : (ms : Option (List (List ℕ × Tree))) → ms ≡ Some m.members → HasError (missing_error s t f) (fields_in r s children defaults t ms)
  unfolding fields_of
  told_of None opens = cc
  told_of (Some ms) opens =
      not_good _ _ (missing_error s t f)
      (in_front (flat_map (field_errors s t) (answers s t children defaults 0 r.fields))
      (flat_map extra_errors (extras_of (extra_of r s) (slice_get children (length r.fields)) (extras_in r s t))) (missing_error s t f)
      (told_from s t children defaults 0 i i r.fields f (omega arith) m.field m.required m.default m.found))

  pub missing_told : HasError (missing_error s t f) (fields r s children defaults t)
  unfolding fields
  missing_told = told_of (members_at (out-Tree t)) m.object

first_nowhere : (path : List Step) (ps : List (List Step)) (t : Tree) (o : Option Tree) → follow path t ≡ o → found_by 0 o (found_from 1 ps t) ≡ None → o ≡ None
first_nowhere path ps t None e h = refl
first_nowhere path ps t (Some u) e h = cc

place_by : (s : Settings) (t : Tree) (f : FieldRule) (ps : List (List Step)) → s.loc_by_alias ≡ true → paths_of s f ≡ ps → is_any_path ps ≡ true → found_from 0 ps t ≡ None → follow (place_of s f) t ≡ None
place_by s t f [] by_paths same some h = cc
place_by s t f (path ∷ ps) by_paths same some h =
    ap (λ p. follow p t)
    (ap (λ b. located b f.name (slice_get (paths_of s f) 0)) by_paths ∙ ap (λ x. path_or_name f.name (slice_get x 0)) same)
    ∙ first_nowhere path ps t (follow path t) refl h

pub place_nowhere : (s : Settings) (fs : List FieldRule) (defaults : List (Option Outcome)) (t : Tree) (i : ℕ) (f : FieldRule) → IsMissing s fs defaults t i f
    → s.loc_by_alias ≡ true → is_any_path (paths_of s f) ≡ true → follow (place_of s f) t ≡ None
unfolding found
place_nowhere s fs defaults t i f m by_paths some = place_by s t f (paths_of s f) by_paths refl some m.found
