-- The errors of fields and of extra members, seen from the whole object.
use Rattle.std.proofs.Common.{◌≡◌, ℕ, zero, suc, ◌+◌, inl, inr, Bool, true, false, ◌&&◌, cond, List, [], ◌∷◌, flat_map, length, Option, None, Some, slice_get, Contains, refl, sym, ap, ◌∙◌, subst, append-nil, arith}
use Rattle.std.proofs.lemmas.Grind.{flat_map-append}
use Rattle.std.proofs.lemmas.List.Elements.{All-contains_itself, recursion_from_All}
use Rattle.std.proofs.lemmas.Slice.Eq.{bytes_eq-Decides}
use Rattle.std.specs.Prelude.{bytes_eq}
use Rattle.std.specs.List.{AllByRecursion, filter, list_all}
use Rattle.std.specs.Option.{IfSome, option_and_then}
use Rattle.pv_tree.specs.declared.Step.{Step}
use Rattle.pv_tree.specs.declared.Step.TheVariants.{Name, Index}
use Rattle.pv_tree.specs.declared.Tree.{Tree, out-Tree}
use Rattle.pv_tree.specs.declared.Tree.TheOpen.{Tree-F}
use Rattle.pv_tree.specs.Merged.{value_at}
use Rattle.pv_tree.specs.Names.{Distinct}
use Rattle.pv_tree.specs.Parts.{items_at, members_at}
use Rattle.pv_rules.specs.declared.ExtraBehavior.{ExtraBehavior}
use Rattle.pv_rules.specs.declared.ExtraBehavior.TheVariants as behavior
use Rattle.pv_rules.specs.declared.FieldRule.{FieldRule}
use Rattle.pv_rules.specs.declared.FieldsRule.{FieldsRule}
use Rattle.pv_rules.specs.declared.Settings.{Settings}
use Rattle.pv_fault.specs.declared.Kind.{Kind}
use Rattle.pv_fault.specs.declared.Kind.TheVariants as kind
use Rattle.pv_fault.specs.declared.LineError.{LineError}
use Rattle.pv_fault.specs.declared.Outcome.{Outcome}
use Rattle.pv_fault.specs.declared.Outcome.TheVariants.{Good, Bad}
use Rattle.pv_fault.specs.Single.{error_here}
use Rattle.pv_fault.specs.Under.{under, all_under, at_path, all_at_path}
use Rattle.pv_fields.specs.Paths.{paths_of, path_or_name, located, front_of, place_of, extra_of}
use Rattle.pv_paths.specs.Following.{part_at, follow, found, found_by, found_from}
use Rattle.pv_fields.specs.Finding.{found_field, is_extra, taken_paths, members_or_none, extras_in}
use Rattle.pv_fields.specs.FieldList.{Given, errors_of, answer_errors, field_errors, extra_errors, all_errors, unless_errors, fields_of}
use Rattle.pv_walk.specs.Rules.{Child}
use Rattle.pv_walk.specs.Fields.{unfound, answer_of, child_or_none, default_or_none, answered, answers, extra_child, extra_by, extras_of, object_error, fields_in, fields}
use Rattle.pv_laws.specs.Located.{IsPart, IsLocated, IsOutcomeOf}
use Rattle.pv_laws.specs.Locations.{is_any_path, keeps_fields}
use Rattle.pv_laws.proofs.Each.{each_append, each_map, each_more, found_is}
use Rattle.pv_laws.proofs.LocatedParts.{IsAt, Locates, here}

some_same : {X : Type 0} (x y : X) → (let o : Option X = Some x in o) ≡ Some y → x ≡ y
some_same x y h = cc

-- the value of a name is that of a member
member_by : (b : Bool) (name : List ℕ) (m : List ℕ × Tree) (ms : List (List ℕ × Tree)) (u : Tree) → bytes_eq name m.0 ≡ b → (value_at ms name ≡ Some u → Contains ms (name, u))
    → (if_so : (let o : Option Tree = cond b (Some m.1) (value_at ms name) in o) ≡ Some u) → Contains (m ∷ ms) (name, u)
member_by true name m ms u e later h =
    let same : name ≡ m.0 = (bytes_eq-Decides name m.0).0 e in
    (zero, omega arith, ap (λ n. (n, m.1)) (sym same) ∙ ap (λ v. (name, v)) (some_same m.1 u h))
member_by false name m ms u e later h = let c = later h in (suc c.0, omega (arith, c.1), c.2)

member_found : (name : List ℕ) (ms : List (List ℕ × Tree)) (u : Tree) → value_at ms name ≡ Some u → Contains ms (name, u)
member_found name [] u h = cc
member_found name (m ∷ ms) u h = member_by (bytes_eq name m.0) name m ms u refl (member_found name ms u) h

-- a step that leads to a part
name_part : (name : List ℕ) (x : Tree-F Tree) (u : Tree) → option_and_then (λ ms. value_at ms name) (members_at x) ≡ Some u → IsPart (Name name) x u
name_part name (Tree-F.Object d) u h = member_found name d.members u h
name_part name x u h = cc

index_part : (i : ℕ) (x : Tree-F Tree) (u : Tree) → option_and_then (λ ts. slice_get ts i) (items_at x) ≡ Some u → IsPart (Index i) x u
index_part i (Tree-F.Array ts) u h = h
index_part i x u h = cc

is_part : (s : Step) (t u : Tree) → part_at s t ≡ Some u → IsPart s (out-Tree t) u
is_part (Name name) t u h = name_part name (out-Tree t) u h
is_part (Index i) t u h = index_part i (out-Tree t) u h

-- an error in the part to which a path leads
along_by : (o : Option Tree) (s : Step) (path : List Step) (t part : Tree) (e : LineError) → part_at s t ≡ o
    → ((u : Tree) → follow path u ≡ Some part → IsAt u (at_path path e)) → option_and_then (follow path) o ≡ Some part → IsAt t (at_path (s ∷ path) e)
unfolding IsLocated
along_by None s path t part e p later h = cc
along_by (Some u) s path t part e p later h = inl (u, is_part s t u p, later u h)

along : (t part : Tree) (path : List Step) (e : LineError) → IsAt part e → follow path t ≡ Some part → IsAt t (at_path path e)
along t part [] e at h = subst (λ x. IsLocated e.loc x e.input) (sym (some_same t part h)) at
along t part (s ∷ path) e at h = along_by (part_at s t) s path t part e refl (λ u f. along u part path e at f) h

along_all : (t part : Tree) (path : List Step) (es : List LineError) → follow path t ≡ Some part → AllByRecursion (IsAt part) es → AllByRecursion (IsAt t) (all_at_path path es)
along_all t part path es h all = each_map (IsAt t) (at_path path) es (each_more (IsAt part) (λ e. IsAt t (at_path path e)) (λ e at. along t part path e at h) es all)

-- a path that leads nowhere
nowhere : (t : Tree) (ms : List (List ℕ × Tree)) (k : Kind) (path : List Step) → members_at (out-Tree t) ≡ Some ms → follow path t ≡ None → IsAt t (at_path path (error_here k t))
unfolding IsLocated
nowhere t ms k [] opens h = cc
nowhere t ms k (s ∷ path) opens h = inr (inr (inr ((ms, opens, ap (λ p. follow p t) (append-nil (s ∷ path)) ∙ h), refl)))

-- the path at which a tree was found
abbrev FoundAt : List (List Step) → Tree → ℕ → ℕ → Tree → Type 0
FoundAt ps t i p u = (j : ℕ) × (p ≡ i + j) × ((path : List Step) × (slice_get ps j ≡ Some path) × (follow path t ≡ Some u))

found_by_path : (o : Option Tree) (path : List Step) (ps : List (List Step)) (t : Tree) (i p : ℕ) (u : Tree) → follow path t ≡ o
    → (found_from (i + 1) ps t ≡ Some (p, u) → FoundAt ps t (i + 1) p u) → found_by i o (found_from (i + 1) ps t) ≡ Some (p, u) → FoundAt (path ∷ ps) t i p u
found_by_path None path ps t i p u e later h = let c = later h in (suc c.0, omega (arith, c.1), c.2)
found_by_path (Some v) path ps t i p u e later h =
    let both = some_same (i, v) (p, u) h in
    let number : i ≡ p = ap (λ x. x.0) both in
    (zero, omega (arith, number), (path, refl, e ∙ ap (λ x. Some x.1) both))

found_path : (ps : List (List Step)) (t : Tree) (i p : ℕ) (u : Tree) → found_from i ps t ≡ Some (p, u) → FoundAt ps t i p u
found_path [] t i p u h = cc
found_path (path ∷ ps) t i p u h = found_by_path (follow path t) path ps t i p u refl (found_path ps t (i + 1) p u) h

first_nowhere : (path : List Step) (ps : List (List Step)) (t : Tree) (o : Option Tree) → follow path t ≡ o → found_by 0 o (found_from 1 ps t) ≡ None → o ≡ None
first_nowhere path ps t None e h = refl
first_nowhere path ps t (Some u) e h = cc

-- a default that gives no error
abbrev pub IsQuiet : Option Outcome → Type 0
IsQuiet None = Unit {0}
IsQuiet (Some o) = errors_of o ≡ []

-- the errors of an outcome
outcome_located : (t : Tree) (o : Outcome) → IsOutcomeOf t o → AllByRecursion (IsAt t) (errors_of o)
outcome_located t (Good v g n) h = tt
outcome_located t (Bad es) h = h.located

some_child : (o : Option Child) → IfSome o Locates → Locates (child_or_none o)
some_child None is t = record { some = omega arith; located = (here t kind.RecursionLoop, tt) }
some_child (Some child) is t = is t

some_extra : (o : Option Child) → IfSome o Locates → Locates (extra_child o)
some_extra None is t = tt
some_extra (Some child) is t = is t

quiet_default : (o : Option (Option Outcome)) → IfSome o IsQuiet → IsQuiet (default_or_none o)
quiet_default None is = tt
quiet_default (Some d) is = is

module _ (s : Settings) (t : Tree) (d : Distinct Tree) (opens : out-Tree t ≡ Tree-F.Object d) (by_paths : s.loc_by_alias ≡ true) where
  is_object : members_at (out-Tree t) ≡ Some d.members
  is_object = ap members_at opens

  front_is : (f : FieldRule) (p : ℕ) (path : List Step) → slice_get (paths_of s f) p ≡ Some path → front_of s f p ≡ path
  front_is f p path at = ap (λ b. located b f.name (slice_get (paths_of s f) p)) by_paths ∙ ap (path_or_name f.name) at

  given_located : (f : FieldRule) (child : Child) (p : ℕ) (u : Tree) → Locates child → found_field s t f ≡ Some (p, u)
      → AllByRecursion (IsAt t) (answer_errors s t f (Given p (child u)))
  unfolding found
  given_located f child p u is h =
      let at = found_path (paths_of s f) t 0 p u h in
      let number : at.0 ≡ p = omega (arith, at.1) in
      let path = at.2.0 in
      subst (λ front. AllByRecursion (IsAt t) (all_at_path front (errors_of (child u))))
      (sym (front_is f p path (ap (slice_get (paths_of s f)) (sym number) ∙ at.2.1)))
      (along_all t u path (errors_of (child u)) at.2.2 (outcome_located u (child u) (is u)))

  missing_by : (f : FieldRule) (ps : List (List Step)) → paths_of s f ≡ ps → is_any_path ps ≡ true → found_from 0 ps t ≡ None
      → AllByRecursion (IsAt t) (all_at_path (place_of s f) (error_here kind.Missing t ∷ []))
  missing_by f [] same some h = cc
  missing_by f (path ∷ ps) same some h =
      subst (λ front. AllByRecursion (IsAt t) (all_at_path front (error_here kind.Missing t ∷ [])))
      (sym (front_is f 0 path (ap (λ x. slice_get x 0) same)))
      (nowhere t d.members kind.Missing path is_object (first_nowhere path ps t (follow path t) refl h), tt)

  missing_located : (f : FieldRule) → is_any_path (paths_of s f) ≡ true → found_field s t f ≡ None
      → AllByRecursion (IsAt t) (all_at_path (place_of s f) (error_here kind.Missing t ∷ []))
  unfolding found
  missing_located f some h = missing_by f (paths_of s f) refl some h

  unfound_located : (f : FieldRule) (required : Bool) (default : Option Outcome) → is_any_path (paths_of s f) ≡ true → IsQuiet default → found_field s t f ≡ None
      → AllByRecursion (IsAt t) (answer_errors s t f (unfound required default))
  unfound_located f required (Some o) some quiet h = subst (λ es. AllByRecursion (IsAt t) (all_at_path (place_of s f) es)) (sym quiet) tt
  unfound_located f true None some quiet h = missing_located f some h
  unfound_located f false None some quiet h = tt

  field_by : (f : FieldRule) (child : Child) (default : Option Outcome) (o : Option (ℕ × Tree)) → Locates child → IsQuiet default → is_any_path (paths_of s f) ≡ true → found_field s t f ≡ o
      → AllByRecursion (IsAt t) (answer_errors s t f (answer_of f.required child default o))
  field_by f child default None is quiet some h = unfound_located f f.required default some quiet h
  field_by f child default (Some hit) is quiet some h = given_located f child hit.0 hit.1 is h

  module _ (children : List Child) (defaults : List (Option Outcome)) (are : AllByRecursion Locates children) (quiet : AllByRecursion IsQuiet defaults) where
    fields_from : (i : ℕ) (fs : List FieldRule) → AllByRecursion (λ f. is_any_path (paths_of s f) ≡ true) fs
        → AllByRecursion (IsAt t) (flat_map (field_errors s t) (answers s t children defaults i fs))
    fields_from i [] some = tt
    fields_from i (f ∷ fs) some =
        each_append (IsAt t) (field_errors s t (answered s t children defaults i f)) (flat_map (field_errors s t) (answers s t children defaults (i + 1) fs))
        (field_by f (child_or_none (slice_get children i)) (default_or_none (slice_get defaults i)) (found_field s t f)
        (some_child (slice_get children i) (found_is Locates children i are)) (quiet_default (slice_get defaults i) (found_is IsQuiet defaults i quiet)) some.0 refl)
        (fields_from (i + 1) fs some.1)

-- extra members
module _ (t : Tree) (d : Distinct Tree) (opens : out-Tree t ≡ Tree-F.Object d) (child : Option Child) (is : IfSome child Locates) where
  under_member : (m : List ℕ × Tree) → Contains d.members m → (es : List LineError) → AllByRecursion (IsAt m.1) es → AllByRecursion (IsAt t) (all_under (Name m.0) es)
  unfolding IsLocated
  under_member m within es h =
      each_map (IsAt t) (under (Name m.0)) es
      (each_more (IsAt m.1) (λ e. IsAt t (under (Name m.0) e)) (λ e at. inl (m.1, subst (λ x. IsPart (Name m.0) x m.1) (sym opens) within, at)) es h)

  extra_located : (b : ExtraBehavior) (m : List ℕ × Tree) → Contains d.members m → AllByRecursion (IsAt t) (flat_map extra_errors (extra_by b child m))
  extra_located behavior.Ignore m within = tt
  extra_located behavior.Forbid m within =
      each_append (IsAt t) (all_under (Name m.0) (error_here kind.ExtraForbidden m.1 ∷ [])) []
      (under_member m within (error_here kind.ExtraForbidden m.1 ∷ []) (here m.1 kind.ExtraForbidden, tt)) tt
  extra_located behavior.Allow m within =
      each_append (IsAt t) (all_under (Name m.0) (errors_of (extra_child child m.1))) []
      (under_member m within (errors_of (extra_child child m.1)) (outcome_located m.1 (extra_child child m.1) (some_extra child is m.1))) tt

  extras_located : (b : ExtraBehavior) (ms : List (List ℕ × Tree)) → AllByRecursion (Contains d.members) ms → AllByRecursion (IsAt t) (flat_map extra_errors (extras_of b child ms))
  extras_located b [] within = tt
  extras_located b (m ∷ ms) within =
      subst (λ es. AllByRecursion (IsAt t) es) (sym (flat_map-append extra_errors (extra_by b child m) (extras_of b child ms)))
      (each_append (IsAt t) (flat_map extra_errors (extra_by b child m)) (flat_map extra_errors (extras_of b child ms)) (extra_located b m within.0) (extras_located b ms within.1))

filter_by : {X : Type 0} (P : X → Type 0) (b : Bool) (x : X) (xs : List X) → P x → AllByRecursion P xs → AllByRecursion P (cond b (x ∷ xs) xs)
filter_by P true x xs h rest = (h, rest)
filter_by P false x xs h rest = rest

each_filter : {X : Type 0} (P : X → Type 0) (p : X → Bool) (xs : List X) → AllByRecursion P xs → AllByRecursion P (filter p xs)
each_filter P p [] h = tt
each_filter P p (x ∷ xs) h = filter_by P (p x) x (filter p xs) h.0 (each_filter P p xs h.1)

both_left : (a b : Bool) → (a && b) ≡ true → a ≡ true
both_left true b h = refl
both_left false b h = h

both_right : (a b : Bool) → (a && b) ≡ true → b ≡ true
both_right true b h = h
both_right false b h = cc

-- what holds of each element by a test
each_passes : {X : Type 0} (p : X → Bool) (xs : List X) → list_all p xs ≡ true → AllByRecursion (λ x. p x ≡ true) xs
each_passes p [] h = tt
each_passes p (x ∷ xs) h = (both_left (p x) (list_all p xs) h, each_passes p xs (both_right (p x) (list_all p xs) h))

unless_located : (t : Tree) (es : List LineError) (whole : Outcome) → AllByRecursion (IsAt t) es → IsOutcomeOf t whole → IsOutcomeOf t (unless_errors es whole)
unless_located t [] whole h is = is
unless_located t (e ∷ es) whole h is = record { some = omega arith; located = h }

module _ (r : FieldsRule) (s : Settings) (children : List Child) (defaults : List (Option Outcome)) (keeps : keeps_fields s r.fields ≡ true)
    (are : AllByRecursion Locates children) (quiet : AllByRecursion IsQuiet defaults) where
  fields_by_level : (t : Tree) (x : Tree-F Tree) → out-Tree t ≡ x → IsOutcomeOf t (fields_in r s children defaults t (members_at x))
  unfolding fields_of
  fields_by_level t (Tree-F.Object d) opens =
      let fs = answers s t children defaults 0 r.fields in
      let child = slice_get children (length r.fields) in
      let es = extras_of (extra_of r s) child (extras_in r s t) in
      let by_paths = both_left s.loc_by_alias (list_all (λ f. is_any_path (paths_of s f)) r.fields) keeps in
      let some = each_passes (λ f. is_any_path (paths_of s f)) r.fields (both_right s.loc_by_alias (list_all (λ f. is_any_path (paths_of s f)) r.fields) keeps) in
      let within = subst (λ ms. AllByRecursion (Contains d.members) (filter (λ m. is_extra (taken_paths s t r.fields) m.0) ms)) (sym (ap (λ y. members_or_none (members_at y)) opens))
      (each_filter (Contains d.members) (λ m. is_extra (taken_paths s t r.fields) m.0) d.members (recursion_from_All (Contains d.members) d.members (All-contains_itself d.members))) in
      unless_located t (all_errors s t fs es) _
      (each_append (IsAt t) (flat_map (field_errors s t) fs) (flat_map extra_errors es)
      (fields_from s t d opens by_paths children defaults are quiet 0 r.fields some)
      (extras_located t d opens child (found_is Locates children (length r.fields) are) (extra_of r s) (extras_in r s t) within)) tt
  fields_by_level t x opens = record { some = omega arith; located = (here t (object_error r.kind), tt) }

  pub fields_located : Locates (fields r s children defaults)
  unfolding fields
  fields_located t = fields_by_level t (out-Tree t) refl
