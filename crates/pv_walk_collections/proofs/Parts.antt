-- One more part of a collection, and the end of its walk.
use Rattle.std.proofs.Common.{◌≡◌, ℕ, Bool, true, false, List, [], ◌∷◌, ◌++◌, Option, Some, None, length, take, refl, sym, ap, subst, ◌∙◌}
use Rattle.std.specs.Prelude.{codes, not, ◌&&◌, if◌then◌else◌, Result, Ok, Err, flat_map}
use Rattle.pv_text.specs.declared.Memory.{Memory}
use Rattle.pv_tree.specs.declared.Step.TheVariants.{Name, Index}
use Rattle.pv_tree.specs.declared.Tree.{Tree}
use Rattle.pv_tree.specs.declared.Tree.TheVariants as tree
use Rattle.pv_tree.specs.declared.Value.{Value}
use Rattle.pv_rules.specs.declared.Collection.{Collection}
use Rattle.pv_rules.specs.declared.GatherRule.{GatherRule}
use Rattle.pv_fault.specs.declared.Grade.{Grade}
use Rattle.pv_fault.specs.declared.LineError.{LineError}
use Rattle.pv_fault.specs.declared.Kind.{Kind}
use Rattle.pv_fault.specs.declared.Kind.TheVariants as kind
use Rattle.pv_fault.specs.declared.Good as good
use Rattle.pv_fault.specs.declared.Outcome.{Outcome}
use Rattle.pv_fault.specs.declared.Outcome.TheVariants.{Good, Bad}
use Rattle.pv_fault.specs.Single.{error_here, one_error}
use Rattle.pv_fault.specs.Under.{all_under, outcome_under}
use Rattle.pv_equality.specs.Hashable.{hashable}
use Rattle.pv_collect.specs.Gathering.{Part, Pair, own_grade, needs_hash, errors_of, item_errors, items_errors, key_errors, pair_errors, missing_of, wanted, outcomes_in, kept, measured, unless_errors, gather_items, gather_pairs}
use Rattle.pv_collect.specs.Kept.{Kept, good_of, nothing_kept, item_kept, entry_kept, kept_of_items, fitting, finished_items, finished_entries}
use Rattle.pv_collect.proofs.Parts.{item_errors_more, pair_errors_more, empty_first, empty_second, empty_under, item_kept_more, entry_kept_more}
use Rattle.pv_walk.specs.declared.Out.{Out}
use Rattle.pv_walk.specs.Walks.{Adds, written, Walked, Walks}
use Rattle.pv_walk.specs.Rules.{Child}
use Rattle.pv_walk_collections.specs.Going.{hashed, is_hashable, item_in, key_in, Going, GoingPairs, WalkedPair}
use Rattle.pv_walk.proofs.Walking.{good_past, errors_past, adds_none, adds_walked, adds_both, adds_same, adds_stepped, none_added, same_length, walked_good, walked_bad, walked_after}

-- a part that has to be hashable
item_by : (b : Bool) (k : Kind) (t : Tree) (v : Value) (g : Grade) (n : Option ℕ)
    → errors_of (if b then one_error k t else Good v g n) ≡ (if b then error_here k t ∷ [] else [])
item_by true k t v g n = refl
item_by false k t v g n = refl

item_in_errors : (k : Collection) (t : Tree) (o : Outcome) → errors_of (item_in k t o) ≡ item_errors k t o
item_in_errors k t (Good v g n) = item_by (needs_hash k && not (hashable v)) kind.SetItemNotHashable t v g n
item_in_errors k t (Bad es) = refl

good_by : (b : Bool) (k : Kind) (t : Tree) (v : Value) (g : Grade) (n : Option ℕ)
    → errors_of (if b then one_error k t else Good v g n) ≡ [] → good_of (if b then one_error k t else Good v g n) ≡ good_of (Good v g n)
good_by true k t v g n h = cc
good_by false k t v g n h = refl

hashed_good : (b : Bool) (k : Kind) (t : Tree) (o : Outcome) → errors_of (hashed b k t o) ≡ [] → good_of (hashed b k t o) ≡ good_of o
hashed_good b k t (Good v g n) h = good_by (b && not (hashable v)) k t v g n h
hashed_good b k t (Bad es) h = refl

key_by : (b : Bool) (k : Kind) (t : Tree) (v : Value) (g : Grade) (n : Option ℕ)
    → errors_of (if not b then one_error k t else Good v g n) ≡ (if b then [] else error_here k t ∷ [])
key_by true k t v g n = refl
key_by false k t v g n = refl

key_in_errors : (name : List ℕ) (o : Outcome) → errors_of (key_in name o) ≡ key_errors name o
key_in_errors name (Good v g n) = key_by (hashable v) kind.DictKeyNotHashable (tree.Str name) v g n
key_in_errors name (Bad es) = refl

-- what was found is hashable, or need not be
passes_by : (b h : Bool) (k : Kind) (t : Tree) (v : Value) (g : Grade) (n : Option ℕ) → (b && not h) ≡ false
    → (let x : Outcome = if b && not h then one_error k t else Good v g n in x) ≡ Good v g n
passes_by b h k t v g n e = ap (λ c. if c then one_error k t else Good v g n) e

fails_by : (b h : Bool) (k : Kind) (t : Tree) (v : Value) (g : Grade) (n : Option ℕ) → (b && not h) ≡ true
    → (let x : Outcome = if b && not h then one_error k t else Good v g n in x) ≡ one_error k t
fails_by b h k t v g n e = ap (λ c. if c then one_error k t else Good v g n) e

pub walked_hashed : (old new : Out) (found : Option good.Good) (b : Bool) (k : Kind) (t : Tree) (o : Outcome)
    → Walked old new found o → (b && not (is_hashable found)) ≡ false → Walked old new found (hashed b k t o)
walked_hashed old new found b k t (Good v g n) w h =
    let same : hashed b k t (Good v g n) ≡ Good v g n = passes_by b (hashable v) k t v g n (ap (λ x. b && not (is_hashable x)) (sym w.answer) ∙ h) in
    record { path = w.path; answer = w.answer ∙ ap good_of (sym same); errors = w.errors ∙ ap (written old.path old.errors) (sym same) }
walked_hashed old new found b k t (Bad es) w h = w

not_both : (b : Bool) → (b && false) ≡ true → ⊥
not_both true e = cc
not_both false e = cc

pub walks_unhashable : (old new next : Out) (found : Option good.Good) (r : Result (Option good.Good) Memory) (b : Bool) (k : Kind) (t : Tree) (o : Outcome)
    → Walked old new found o → (b && not (is_hashable found)) ≡ true → Walks new next r (one_error k t) → Walks old next r (hashed b k t o)
walks_unhashable old new next found (Err m) b k t o w h x = tt
walks_unhashable old new next found (Ok answer) b k t (Good v g n) w h x =
    walked_after old new next [] answer (one_error k t) _ (adds_walked old new found (Good v g n) w) refl
    (fails_by b (hashable v) k t v g n (ap (λ y. b && not (is_hashable y)) (sym w.answer) ∙ h)) x
walks_unhashable old new next found (Ok answer) b k t (Bad es) w h x = absurd (not_both b (sym (ap (λ y. b && not (is_hashable y)) w.answer) ∙ h))

pub key_named : (f : Child) (name shared : List ℕ) (old new : Out) (r : Result (Option good.Good) Memory) → shared ≡ name
    → Walks old new r (key_in shared (f (tree.Str shared))) → Walks old new r (key_in name (f (tree.Str name)))
key_named f name shared old new r e w = subst (λ n. Walks old new r (key_in n (f (tree.Str n)))) e w

-- items
pub going_start : (old : Out) (k : Collection) (kept : Kept Value) → kept ≡ nothing_kept k → Going old old k kept []
going_start old k kept e = record { adds = adds_none old; whole = λ none. e }

pub going_more : (old new next : Out) (k : Collection) (kept more : Kept Value) (ps : List Part) (p : Part) (n : ℕ) (found : Option good.Good)
    → n ≡ length ps → Going old new k kept ps → Walked new next found (outcome_under (Index n) (item_in k p.input p.outcome))
    → (length next.errors ≡ length old.errors → more ≡ item_kept kept found) → Going old next k more (ps ++ p ∷ [])
going_more old new next k kept more ps p n found count h w take =
    let here : List LineError = all_under (Index n) (item_errors k p.input p.outcome) in
    let grown : items_errors k 0 (ps ++ p ∷ []) ≡ items_errors k 0 ps ++ here =
    item_errors_more k ps p ∙ ap (λ j. items_errors k 0 ps ++ all_under (Index j) (item_errors k p.input p.outcome)) (sym count) in
    let added : Adds old next (items_errors k 0 ps ++ here) = adds_both old new next _ _ h.adds
    (adds_same new next _ _ (errors_past (Index n) (item_in k p.input p.outcome) ∙ ap (all_under (Index n)) (item_in_errors k p.input p.outcome)) (adds_walked new next found _ w)) in
    record {
      adds = adds_same old next _ _ (sym grown) added;
      whole = λ none.
          let both : items_errors k 0 ps ++ here ≡ [] = sym grown ∙ none in
          let own : item_errors k p.input p.outcome ≡ [] = empty_under (Index n) _ (empty_second (items_errors k 0 ps) here both) in
          let same : found ≡ good_of p.outcome = w.answer ∙ sym (good_past (Index n) (item_in k p.input p.outcome))
          ∙ hashed_good (needs_hash k) kind.SetItemNotHashable p.input p.outcome (item_in_errors k p.input p.outcome ∙ own) in
          take (same_length old next _ added both) ∙ ap (item_kept kept) same
          ∙ ap (λ x. item_kept x (good_of p.outcome)) (h.whole (empty_first (items_errors k 0 ps) here both)) ∙ sym (item_kept_more (own_grade k) ps p);
    }

-- the end of an array
unless_bad : (es : List LineError) (o : Outcome) → (es ≡ [] → ⊥) → unless_errors es o ≡ Bad es
unless_bad [] o some = absurd (some refl)
unless_bad (e ∷ es) o some = refl

no_errors : (es : List LineError) (o : Outcome) → es ≡ [] → unless_errors es o ≡ o
no_errors [] o h = refl
no_errors (e ∷ es) o h = cc

abbrev whole_of : good.Good → Outcome
whole_of g = Good g.value g.grade g.fields

measured_ok : (f : Option Kind) (t : Tree) (g x : good.Good) → Ok x ≡ fitting f g → measured f t (whole_of g) ≡ whole_of x
measured_ok None t g x e = let same : x ≡ g = cc in ap whole_of (sym same)
measured_ok (Some k) t g x e = cc

measured_err : (f : Option Kind) (t : Tree) (g : good.Good) (x : Kind) → Err x ≡ fitting f g → measured f t (whole_of g) ≡ one_error x t
measured_err None t g x e = cc
measured_err (Some k) t g x e = let same : x ≡ k = cc in ap (λ y. one_error y t) (sym same)

module _ (old mid new : Out) (r : GatherRule) (items : ℕ) (t : Tree) (k : Kept Value) (ps : List Part)
    (h : Going old mid r.kind k ps) (a : Adds mid new (missing_of (wanted r items) items t)) where
  abbrev all_errors : List LineError
  all_errors = items_errors r.kind 0 ps ++ missing_of (wanted r items) items t

  total : Adds old new all_errors
  total = adds_both old mid new _ _ h.adds a

  held : all_errors ≡ [] → k ≡ kept_of_items (own_grade r.kind) (outcomes_in ps)
  held none = h.whole (empty_first (items_errors r.kind 0 ps) _ none)

  pub items_bad : (length new.errors ≡ length old.errors → ⊥) → Walked old new None (gather_items r items t ps)
  unfolding gather_items
  items_bad more = walked_bad old new all_errors _ total (unless_bad all_errors _ (λ none. more (same_length old new all_errors total none)))

  pub items_good : (x : good.Good) → length new.errors ≡ length old.errors → Ok x ≡ finished_items r items k → Walked old new (Some x) (gather_items r items t ps)
  unfolding gather_items finished_items
  items_good x same is =
      let none : all_errors ≡ [] = none_added old new all_errors total same in
      walked_good old new x all_errors _ total none
      (no_errors _ _ none ∙ measured_ok _ t _ x (is ∙ ap (finished_items r items) (held none)))

  pub items_fault : (x : Kind) (next : Out) (result : Result (Option good.Good) Memory) → length new.errors ≡ length old.errors → Err x ≡ finished_items r items k
      → Walks new next result (one_error x t) → Walks old next result (gather_items r items t ps)
  unfolding gather_items finished_items
  items_fault x next (Err m) same is w = tt
  items_fault x next (Ok found) same is w =
      let none : all_errors ≡ [] = none_added old new all_errors total same in
      walked_after old new next all_errors found (one_error x t) _ total none
      (no_errors _ _ none ∙ measured_err _ t _ x (is ∙ ap (finished_items r items) (held none))) w

-- members
pub member_walked : (old pushed one two back : Out) (name : List ℕ) (n : ℕ) (key value : Option good.Good) (k v : Outcome)
    → n ≡ length old.path → pushed.path ≡ old.path ++ Name name ∷ [] → pushed.errors ≡ old.errors
    → Walked pushed one key (outcome_under (Name (codes "[key]")) (key_in name k)) → Walked one two value v
    → back.path ≡ take n two.path → back.errors ≡ two.errors → WalkedPair old back key value (record { name = name; key = k; value = v })
member_walked old pushed one two back name n key value k v len path errors w x cut kept = record {
  adds = adds_stepped old pushed two back (Name name) n _ len path errors
      (adds_both pushed one two _ _
      (adds_same pushed one _ _ (errors_past (Name (codes "[key]")) (key_in name k) ∙ ap (all_under (Name (codes "[key]"))) (key_in_errors name k)) (adds_walked pushed one key _ w))
      (adds_walked one two value v x)) cut kept;
  key = w.answer ∙ sym (good_past (Name (codes "[key]")) (key_in name k));
  value = x.answer;
}

pub pairs_start : (old : Out) (k : Collection) (kept : Kept (Value × Value)) → kept ≡ nothing_kept k → GoingPairs old old k kept []
pairs_start old k kept e = record { adds = adds_none old; whole = λ none. e }

pub pairs_more : (old new next : Out) (k : Collection) (kept more : Kept (Value × Value)) (ps : List Pair) (p : Pair) (key value : Option good.Good)
    → GoingPairs old new k kept ps → WalkedPair new next key value p
    → (length next.errors ≡ length old.errors → more ≡ entry_kept kept key value) → GoingPairs old next k more (ps ++ p ∷ [])
pairs_more old new next k kept more ps p key value h w take =
    let before : List LineError = flat_map pair_errors ps in
    let grown : flat_map pair_errors (ps ++ p ∷ []) ≡ before ++ pair_errors p = pair_errors_more ps p in
    let added : Adds old next (before ++ pair_errors p) = adds_both old new next _ _ h.adds w.adds in
    record {
      adds = adds_same old next _ _ (sym grown) added;
      whole = λ none.
          let both : before ++ pair_errors p ≡ [] = sym grown ∙ none in
          let mark : List LineError = all_under (Name (codes "[key]")) (key_errors p.name p.key) in
          let here : mark ++ errors_of p.value ≡ [] = empty_under (Name p.name) (mark ++ errors_of p.value) (empty_second before (pair_errors p) both) in
          let own : key_errors p.name p.key ≡ [] = empty_under (Name (codes "[key]")) (key_errors p.name p.key) (empty_first mark (errors_of p.value) here) in
          let same : key ≡ good_of p.key = w.key ∙ hashed_good true kind.DictKeyNotHashable (tree.Str p.name) p.key (key_in_errors p.name p.key ∙ own) in
          take (same_length old next _ added both) ∙ ap (λ x. entry_kept kept x value) same ∙ ap (entry_kept kept (good_of p.key)) w.value
          ∙ ap (λ x. entry_kept x (good_of p.key) (good_of p.value)) (h.whole (empty_first before (pair_errors p) both)) ∙ sym (entry_kept_more (own_grade k) ps p);
    }

module _ (old new : Out) (r : GatherRule) (t : Tree) (k : Kept (Value × Value)) (ps : List Pair) (h : GoingPairs old new r.kind k ps) where
  pub pairs_bad : (length new.errors ≡ length old.errors → ⊥) → Walked old new None (gather_pairs r t ps)
  unfolding gather_pairs
  pairs_bad more = walked_bad old new _ _ h.adds (unless_bad _ _ (λ none. more (same_length old new _ h.adds none)))

  pub pairs_good : (x : good.Good) → length new.errors ≡ length old.errors → Ok x ≡ finished_entries r k → Walked old new (Some x) (gather_pairs r t ps)
  unfolding gather_pairs finished_entries
  pairs_good x same is =
      let none : flat_map pair_errors ps ≡ [] = none_added old new _ h.adds same in
      walked_good old new x _ _ h.adds none
      (no_errors _ _ none ∙ measured_ok _ t _ x (is ∙ ap (finished_entries r) (h.whole none)))

  pub pairs_fault : (x : Kind) (next : Out) (result : Result (Option good.Good) Memory) → length new.errors ≡ length old.errors → Err x ≡ finished_entries r k
      → Walks new next result (one_error x t) → Walks old next result (gather_pairs r t ps)
  unfolding gather_pairs finished_entries
  pairs_fault x next (Err m) same is w = tt
  pairs_fault x next (Ok found) same is w =
      let none : flat_map pair_errors ps ≡ [] = none_added old new _ h.adds same in
      walked_after old new next _ found (one_error x t) _ h.adds none
      (no_errors _ _ none ∙ measured_err _ t _ x (is ∙ ap (finished_entries r) (h.whole none))) w
