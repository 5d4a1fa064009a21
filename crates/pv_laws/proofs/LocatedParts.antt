-- The errors of the parts of a document, seen from the whole.
use Rattle.std.proofs.Common.{◌≡◌, ℕ, zero, suc, ◌+◌, ◌-◌, ◌≤◌, inl, inr, Bool, true, false, not, ◌&&◌, if◌then◌else◌, List, [], ◌∷◌, ◌++◌, map, flat_map, length, codes, Option, None, Some, slice_get, Contains, refl, sym, ap, ◌∙◌, subst, ⊎_elim, arith}
use Rattle.std.specs.List.{AllByRecursion}
use Rattle.std.specs.Option.{IfSome}
use Rattle.pv_tree.specs.declared.Step.{Step}
use Rattle.pv_tree.specs.declared.Step.TheVariants.{Name, Index}
use Rattle.pv_tree.specs.declared.Tree.{Tree, out-Tree, out-roll-Tree}
use Rattle.pv_tree.specs.Names.{Distinct}
use Rattle.pv_tree.specs.Parts.{members_at}
use Rattle.pv_tree.specs.declared.Tree.TheVariants as tree
use Rattle.pv_tree.specs.declared.Tree.TheVariants.{rolls-Str}
use Rattle.pv_tree.specs.declared.Tree.TheOpen.{Tree-F}
use Rattle.pv_rules.specs.declared.Collection.{Collection}
use Rattle.pv_fault.specs.declared.Kind.{Kind}
use Rattle.pv_fault.specs.declared.LineError.{LineError}
use Rattle.pv_fault.specs.declared.Outcome.{Outcome}
use Rattle.pv_fault.specs.declared.Outcome.TheVariants.{Good, Bad}
use Rattle.pv_fault.specs.Under.{under, all_under}
use Rattle.pv_equality.specs.Hashable.{hashable}
use Rattle.pv_fault.specs.Single.{error_here}
use Rattle.pv_collect.specs.Gathering.{Part, needs_hash, errors_of, item_errors, items_errors, key_errors, pair_errors, missing_from, missing_of}
use Rattle.pv_walk.specs.Rules.{Child, part, placed, placed_by, pair}
use Rattle.pv_laws.proofs.Each.{each_append, each_map, each_more, found_is}
use Rattle.pv_laws.specs.Located.{IsPart, IsLacking, IsKey, IsLocated, IsOutcomeOf}

-- the location of an error leads from the tree to its input
abbrev pub IsAt : Tree → LineError → Type 0
IsAt t e = IsLocated e.loc t e.input

-- what a child gives for a tree has its errors located in that tree
abbrev pub Locates : Child → Type 0
Locates child = (t : Tree) → IsOutcomeOf t (child t)

-- an error at the tree itself
pub here : (t : Tree) (k : Kind) → IsAt t (error_here k t)
unfolding IsLocated
here t k = refl

errors_located : (t : Tree) (o : Outcome) → IsOutcomeOf t o → AllByRecursion (IsAt t) (errors_of o)
errors_located t (Good v g n) h = tt
errors_located t (Bad es) h = h.located

-- errors in a part, under the step to it
located_under : (t part : Tree) (step : Step) → IsPart step (out-Tree t) part → (es : List LineError) → AllByRecursion (IsAt part) es → AllByRecursion (IsAt t) (all_under step es)
unfolding IsLocated
located_under t part step is es h =
    each_map (IsAt t) (under step) es
    (each_more (IsAt part) (λ e. IsAt t (under step e)) (λ e at. inl (part, is, at)) es h)

-- each part from place i on is the item at its place, and has its errors located in it
abbrev pub AreParts : Tree → ℕ → List Part → Type 0
AreParts t i [] = Unit {0}
AreParts t i (p ∷ ps) = IsPart (Index i) (out-Tree t) p.input × IsOutcomeOf p.input p.outcome × AreParts t (i + 1) ps

-- one error at the tree, or none
one_where : (b : Bool) (t : Tree) (k : Kind) → AllByRecursion (IsAt t) (if b then error_here k t ∷ [] else [])
one_where true t k = (here t k, tt)
one_where false t k = tt

one_unless : (b : Bool) (t : Tree) (k : Kind) → AllByRecursion (IsAt t) (if b then [] else error_here k t ∷ [])
one_unless true t k = tt
one_unless false t k = (here t k, tt)

item_located : (k : Collection) (t : Tree) (o : Outcome) → IsOutcomeOf t o → AllByRecursion (IsAt t) (item_errors k t o)
item_located k t (Good v g n) h = one_where (needs_hash k && not (hashable v)) t _
item_located k t (Bad es) h = h.located

pub items_located : (k : Collection) (t : Tree) (i : ℕ) (ps : List Part) → AreParts t i ps → AllByRecursion (IsAt t) (items_errors k i ps)
items_located k t i [] h = tt
items_located k t i (p ∷ ps) h =
    each_append (IsAt t) (all_under (Index i) (item_errors k p.input p.outcome)) (items_errors k (i + 1) ps)
    (located_under t p.input (Index i) h.0 (item_errors k p.input p.outcome) (item_located k p.input p.outcome h.1))
    (items_located k t (i + 1) ps h.2)

module _ (t : Tree) (all : List Tree) (opens : out-Tree t ≡ Tree-F.Array all) where
  -- what is left of the array from place i on
  abbrev pub IsRest : ℕ → List Tree → Type 0
  IsRest i ts = (j k : ℕ) → k ≡ i + j → slice_get all k ≡ slice_get ts j

  is_item : (i : ℕ) (u : Tree) → slice_get all i ≡ Some u → IsPart (Index i) (out-Tree t) u
  is_item i u at = subst (λ x. IsPart (Index i) x u) (sym opens) at

  pub sequence_parts : (item : Child) → Locates item → (i : ℕ) (ts : List Tree) → IsRest i ts → AreParts t i (map (part item) ts)
  sequence_parts item is i [] rest = tt
  sequence_parts item is i (u ∷ ts) rest = (is_item i u (rest 0 i (omega arith)), is u, sequence_parts item is (i + 1) ts (λ j k e. rest (suc j) k (omega arith)))

  -- nothing stands behind an item that no position takes
  placed_part : (o : Option Child) → IfSome o Locates → (i : ℕ) (u : Tree) (ps : List Part) → slice_get all i ≡ Some u → AreParts t (i + 1) ps → AreParts t i (placed_by o u ps)
  placed_part None is i u ps at h = tt
  placed_part (Some child) is i u ps at h = (is_item i u at, is u, h)

  pub tuple_parts : (children : List Child) → AllByRecursion Locates children → (takers : List ℕ) (i : ℕ) (ts : List Tree) → IsRest i ts → AreParts t i (placed children takers ts)
  tuple_parts children is [] i ts rest = tt
  tuple_parts children is (p ∷ ps) i [] rest = tt
  tuple_parts children is (p ∷ ps) i (u ∷ ts) rest =
      placed_part (slice_get children p) (found_is Locates children p is) i u (placed children ps ts) (rest 0 i (omega arith))
      (tuple_parts children is ps (i + 1) ts (λ j k e. rest (suc j) k (omega arith)))

  -- the input of an error of a lacking item is the whole array
  missing_located_from : (i n : ℕ) → length all ≤ i → AllByRecursion (IsAt t) (missing_from i n t)
  unfolding IsLocated
  missing_located_from i zero past = tt
  missing_located_from i (suc n) past =
      (inr (inl (subst (IsLacking (Index i ∷ [])) (sym opens) past, refl)), missing_located_from (i + 1) n (omega arith))

  pub missing_located : (o : Option ℕ) → AllByRecursion (IsAt t) (missing_of o (length all) t)
  missing_located None = tt
  missing_located (Some n) = missing_located_from (length all) (n - length all) (omega arith)

opens_text : (text : List ℕ) → out-Tree (tree.Str text) ≡ Tree-F.Str text
opens_text text = ap out-Tree (sym (rolls-Str text)) ∙ out-roll-Tree (Tree-F.Str text)

-- a text has no parts, lacks no item and has no keys
no_part : (text : List ℕ) (step : Step) (u : Tree) → IsPart step (Tree-F.Str text) u → ⊥
no_part text (Name k) u is = is
no_part text (Index i) u is = is

none_lacking : (text : List ℕ) (step : Step) (loc : List Step) → IsLacking (step ∷ loc) (Tree-F.Str text) → ⊥
none_lacking text (Name k) loc is = is
none_lacking text (Index i) [] is = is
none_lacking text (Index i) (next ∷ loc) is = is

no_key : (text : List ℕ) (step : Step) (loc : List Step) (input : Tree) → IsKey (step ∷ loc) (Tree-F.Str text) input → ⊥
no_key text (Index i) loc input is = is
no_key text (Name k) [] input is = is
no_key text (Name k) (mark ∷ []) input is = is
no_key text (Name k) (mark ∷ next ∷ loc) input is = is

no_object : (text : List ℕ) (ms : List (List ℕ × Tree)) → members_at (out-Tree (tree.Str text)) ≡ Some ms → ⊥
no_object text ms h = let is : None ≡ Some ms = sym (ap members_at (opens_text text)) ∙ h in cc

-- so an error in a text is at the text itself
at_text : (text : List ℕ) (loc : List Step) (input : Tree) → IsLocated loc (tree.Str text) input → (loc ≡ []) × (input ≡ tree.Str text)
unfolding IsLocated
at_text text [] input h = (refl, h)
at_text text (step ∷ loc) input h =
    absurd
    (⊎_elim (λ p. no_part text step p.0 (subst (λ x. IsPart step x p.0) (opens_text text) p.1))
    (⊎_elim (λ p. none_lacking text step loc (subst (IsLacking (step ∷ loc)) (opens_text text) p.0))
    (⊎_elim (λ p. no_key text step loc input (subst (λ x. IsKey (step ∷ loc) x input) (opens_text text) p))
    (λ p. no_object text p.0.0 p.0.1)))
    h)

key_located : (name : List ℕ) (o : Outcome) → IsOutcomeOf (tree.Str name) o → AllByRecursion (IsAt (tree.Str name)) (key_errors name o)
key_located name (Good v g n) h = one_unless (hashable v) (tree.Str name) _
key_located name (Bad es) h = h.located

module _ (t : Tree) (d : Distinct Tree) (opens : out-Tree t ≡ Tree-F.Object d) where
  -- an error in the text of a key, under its mark and its name
  is_key : (m : List ℕ × Tree) → Contains d.members m → (e : LineError) → IsAt (tree.Str m.0) e → IsAt t (under (Name m.0) (under (Name (codes "[key]")) e))
  unfolding IsLocated
  is_key m within e h =
      let p = at_text m.0 e.loc e.input h in
      let mark = Name (codes "[key]") in
      inr (inr (inl (subst (λ x. IsKey (Name m.0 ∷ mark ∷ e.loc) x e.input) (sym opens) (subst (λ loc. IsKey (Name m.0 ∷ mark ∷ loc) (Tree-F.Object d) e.input) (sym p.0) (refl, p.1, (m.1, within))))))

  -- an error in the value of a member, under its name
  is_value : (m : List ℕ × Tree) → Contains d.members m → (e : LineError) → IsAt m.1 e → IsAt t (under (Name m.0) e)
  unfolding IsLocated
  is_value m within e h = inl (m.1, subst (λ x. IsPart (Name m.0) x m.1) (sym opens) within, h)

  pair_located : (key value : Child) → Locates key → Locates value → (m : List ℕ × Tree) → Contains d.members m → AllByRecursion (IsAt t) (pair_errors (pair key value m))
  pair_located key value keys values m within =
      let at = under (Name m.0) in
      let mark = under (Name (codes "[key]")) in
      let key_part = key_errors m.0 (key (tree.Str m.0)) in
      let value_part = errors_of (value m.1) in
      let there = λ (e : LineError). IsAt t (at e) in
      each_map (IsAt t) at (map mark key_part ++ value_part)
      (each_append there (map mark key_part) value_part
      (each_map there mark key_part (each_more (IsAt (tree.Str m.0)) (λ e. there (mark e)) (is_key m within) key_part (key_located m.0 (key (tree.Str m.0)) (keys (tree.Str m.0)))))
      (each_more (IsAt m.1) there (is_value m within) value_part (errors_located m.1 (value m.1) (values m.1))))

  pub pairs_located : (key value : Child) → Locates key → Locates value → (ms : List (List ℕ × Tree)) → AllByRecursion (Contains d.members) ms
      → AllByRecursion (IsAt t) (flat_map pair_errors (map (pair key value) ms))
  pairs_located key value keys values [] within = tt
  pairs_located key value keys values (m ∷ ms) within =
      each_append (IsAt t) (pair_errors (pair key value m)) (flat_map pair_errors (map (pair key value) ms)) (pair_located key value keys values m within.0)
      (pairs_located key value keys values ms within.1)
