-- Turns of the loops over the parts of a collection.
use Rattle.std.proofs.Common.{◌≡◌, ℕ, Bool, true, false, eqb, zero, suc, ◌+◌, ◌<◌, ◌≤◌, List, [], ◌∷◌, ◌++◌, map, length, take, drop, get_or, Option, Some, None, slice_get, refl, sym, ap, subst, ◌∙◌, add-one, arith}
use Rattle.std.proofs.lemmas.Bool.{false≢true, eqb-true}
use Rattle.std.proofs.lemmas.Option.{none-some}
use Rattle.std.proofs.lemmas.List.{nil_from_length, drop_more, take_more, take_all, map-append, length-map, length-take-le}
use Rattle.pv_tree.specs.declared.Step.TheVariants.{Index}
use Rattle.pv_tree.specs.declared.Tree.{Tree}
use Rattle.pv_tree.specs.declared.Value.{Value}
use Rattle.pv_rules.specs.declared.Collection.{Collection}
use Rattle.pv_fault.specs.declared.Good as good
use Rattle.pv_fault.specs.declared.Kind.TheVariants as kind
use Rattle.pv_fault.specs.declared.LineError.{LineError}
use Rattle.pv_fault.specs.Under.{outcome_under}
use Rattle.pv_collect.specs.Gathering.{Part, missing_from}
use Rattle.pv_collect.specs.Kept.{Kept, item_kept, entry_kept}
use Rattle.pv_walk.specs.declared.Out.{Out}
use Rattle.pv_walk.specs.Walks.{Adds, Walked}
use Rattle.pv_walk_collections.specs.Going.{item_in, from_position, Going, GoingPairs, WalkedPair}
use Rattle.pv_walk.specs.Rules.{Child, part, pair, first, placed, placed_by}
use Rattle.pv_walk.proofs.Walking.{adds_both, adds_same}
use Rattle.pv_walk_collections.proofs.Parts.{going_more, pairs_more}

-- one more item of a list or a set
pub items_next : (f : Child) (ts : List Tree) (i : ℕ) (t : Tree) (old new next : Out) (k : Collection) (kept more : Kept Value) (found : Option good.Good)
    → i < length ts → t ≡ get_or ts i t → Going old new k kept (map (part f) (take i ts)) → Walked new next found (outcome_under (Index i) (item_in k t (f t)))
    → (length next.errors ≡ length old.errors → more ≡ item_kept kept found) → Going old next k more (map (part f) (take (i + 1) ts))
items_next f ts i t old new next k kept more found l here h w take_it =
    let front : List Tree = take i ts in
    let n : i ≡ length (map (part f) front) = omega (arith, length-map front (part f), length-take-le i ts (omega arith)) in
    subst (λ ps. Going old next k more ps)
    (sym (map-append (part f) front (t ∷ [])) ∙ ap (λ y. map (part f) (front ++ y ∷ [])) here ∙ ap (map (part f)) (sym (take_more ts i t l)))
    (going_more old new next k kept more (map (part f) front) (part f t) i found n h w take_it)

pub items_all : (f : Child) (ts : List Tree) (i : ℕ) (old new : Out) (k : Collection) (kept : Kept Value) → length ts ≤ i
    → Going old new k kept (map (part f) (take i ts)) → Going old new k kept (map (part f) ts)
items_all f ts i old new k kept l h = subst (λ us. Going old new k kept (map (part f) us)) (take_all i ts l) h

-- one more member of a dict
pub members_next : (f g : Child) (ms : List (List ℕ × Tree)) (i : ℕ) (m : List ℕ × Tree) (old new next : Out) (k : Collection) (kept more : Kept (Value × Value)) (key value : Option good.Good)
    → i < length ms → m ≡ get_or ms i m → GoingPairs old new k kept (map (pair f g) (take i ms)) → WalkedPair new next key value (pair f g m)
    → (length next.errors ≡ length old.errors → more ≡ entry_kept kept key value) → GoingPairs old next k more (map (pair f g) (take (i + 1) ms))
members_next f g ms i m old new next k kept more key value l here h w take_it =
    subst (λ ps. GoingPairs old next k more ps)
    (sym (map-append (pair f g) (take i ms) (m ∷ [])) ∙ ap (λ y. map (pair f g) (take i ms ++ y ∷ [])) here ∙ ap (map (pair f g)) (sym (take_more ms i m l)))
    (pairs_more old new next k kept more (map (pair f g) (take i ms)) (pair f g m) key value h w take_it)

pub members_all : (f g : Child) (ms : List (List ℕ × Tree)) (i : ℕ) (old new : Out) (k : Collection) (kept : Kept (Value × Value)) → length ms ≤ i
    → GoingPairs old new k kept (map (pair f g) (take i ms)) → GoingPairs old new k kept (map (pair f g) ms)
members_all f g ms i old new k kept l h = subst (λ us. GoingPairs old new k kept (map (pair f g) us)) (take_all i ms l) h

-- one more of a list whose rest is known
take_next : {X : Type 0} (xs : List X) (i : ℕ) (x : X) (rest : List X) → drop i xs ≡ x ∷ rest → take (i + 1) xs ≡ take i xs ++ x ∷ []
take_next [] zero x rest e = cc
take_next [] (suc i) x rest e = cc
take_next (y ∷ ys) zero x rest e = let same : y ≡ x = cc in ap (λ z. z ∷ []) same
take_next (y ∷ ys) (suc i) x rest e =
    let more : suc i + 1 ≡ suc (i + 1) = omega arith in
    ap (λ n. take n (y ∷ ys)) more ∙ ap (λ zs. y ∷ zs) (take_next ys i x rest e)

drop_next : {X : Type 0} (xs : List X) (i : ℕ) (x : X) (rest : List X) → drop i xs ≡ x ∷ rest → drop (i + 1) xs ≡ rest
drop_next [] zero x rest e = cc
drop_next [] (suc i) x rest e = cc
drop_next (y ∷ ys) zero x rest e = cc
drop_next (y ∷ ys) (suc i) x rest e =
    let more : suc i + 1 ≡ suc (i + 1) = omega arith in
    ap (λ n. drop n (y ∷ ys)) more ∙ drop_next ys i x rest e

pub take_whole : {X : Type 0} (xs : List X) (i : ℕ) → drop i xs ≡ [] → take i xs ≡ xs
take_whole [] zero e = refl
take_whole [] (suc i) e = refl
take_whole (y ∷ ys) zero e = cc
take_whole (y ∷ ys) (suc i) e = ap (λ zs. y ∷ zs) (take_whole ys i e)

taken_length : {X : Type 0} (xs : List X) (i : ℕ) (x : X) (rest : List X) → drop i xs ≡ x ∷ rest → i ≡ length (take i xs)
taken_length [] zero x rest e = cc
taken_length [] (suc i) x rest e = cc
taken_length (y ∷ ys) zero x rest e = refl
taken_length (y ∷ ys) (suc i) x rest e = ap suc (taken_length ys i x rest e)

pub empty_list : (ds : List ℕ) (b : Bool) → b ≡ eqb (length ds) 0 → b ≡ true → ds ≡ []
empty_list ds b e t = nil_from_length ds (eqb-true (length ds) 0 (sym e ∙ t))

pub full_list : (ds : List ℕ) (b : Bool) → b ≡ eqb (length ds) 0 → b ≡ false → ds ≡ [] → ⊥
full_list ds b e t none = false≢true (sym t ∙ e ∙ ap (λ xs. eqb (length xs) 0) none)

-- the child that takes an item stands before those of the positions behind it
taker_some : (f : ℕ → Child) (cs : List ℕ) (p : ℕ) (ds : List ℕ) → ds ≡ drop p cs → (ds ≡ [] → ⊥) → slice_get (map f cs) p ≡ Some (first (map f ds))
taker_some f [] zero ds e some = absurd (some e)
taker_some f [] (suc p) ds e some = absurd (some e)
taker_some f (c ∷ cs) zero ds e some = ap (λ xs. Some (first (map f xs))) (sym e)
taker_some f (c ∷ cs) (suc p) ds e some = taker_some f cs p ds e some

taker_none : (f : ℕ → Child) (cs : List ℕ) (p : ℕ) (ds : List ℕ) → ds ≡ drop p cs → ds ≡ [] → slice_get (map f cs) p ≡ None
taker_none f [] p ds e none = refl
taker_none f (c ∷ cs) zero ds e none = cc
taker_none f (c ∷ cs) (suc p) ds e none = taker_none f cs p ds e none

-- what stands at a place of a list, and what is left from there
at_drop : (ps : List ℕ) (i p : ℕ) → slice_get ps i ≡ Some p → drop i ps ≡ p ∷ drop (i + 1) ps
at_drop [] i p e = absurd (none-some p e)
at_drop (q ∷ ps) zero p e = let same : q ≡ p = cc in ap (λ x. x ∷ ps) same
at_drop (q ∷ ps) (suc i) p e =
    let more : suc i + 1 ≡ suc (i + 1) = omega arith in at_drop ps i p e ∙ ap (λ n. p ∷ drop n (q ∷ ps)) (sym more)

none_left : (ps : List ℕ) (i : ℕ) → slice_get ps i ≡ None → drop i ps ≡ []
none_left [] zero e = refl
none_left [] (suc i) e = refl
none_left (q ∷ ps) zero e = absurd (none-some q (sym e))
none_left (q ∷ ps) (suc i) e = none_left ps i e

-- How far the walk of the items of a tuple has come, each by the child of the position that takes it.
pub record Placing (old new : Out) (k : Collection) (children : List Child) (takers : List ℕ) (ts : List Tree) (i : ℕ) (kept : Kept Value) : Type 0 where
  pub going : Going old new k kept (take i (placed children takers ts))
  pub rest : drop i (placed children takers ts) ≡ placed children (drop i takers) (drop i ts)

module _ (k : Collection) (f : ℕ → Child) (cs : List ℕ) (takers : List ℕ) (ts : List Tree) (i : ℕ) (t : Tree) (ds : List ℕ)
    (l : i < length ts) (here : t ≡ get_or ts i t) (from : ds ≡ from_position (slice_get takers i) cs) where
  abbrev all_placed : List Part
  all_placed = placed (map f cs) takers ts

  next_item : drop i ts ≡ t ∷ drop (i + 1) ts
  next_item = drop_more ts i t l ∙ ap (λ x. x ∷ drop (i + 1) ts) (sym here)

  abbrev more_placed : List Part
  more_placed = placed (map f cs) (drop (i + 1) takers) (drop (i + 1) ts)

  opened_by : (o : Option ℕ) → slice_get takers i ≡ o → ds ≡ from_position o cs → (ds ≡ [] → ⊥)
      → placed (map f cs) (drop i takers) (drop i ts) ≡ part (first (map f ds)) t ∷ more_placed
  opened_by None e same some = absurd (some same)
  opened_by (Some p) e same some =
      ap (λ ps. placed (map f cs) ps (drop i ts)) (at_drop takers i p e) ∙ ap (placed (map f cs) (p ∷ drop (i + 1) takers)) next_item
      ∙ ap (λ o. placed_by o t more_placed) (taker_some f cs p ds same some)

  closed_by : (o : Option ℕ) → slice_get takers i ≡ o → ds ≡ from_position o cs → ds ≡ [] → placed (map f cs) (drop i takers) (drop i ts) ≡ []
  closed_by None e same none = ap (λ ps. placed (map f cs) ps (drop i ts)) (none_left takers i e)
  closed_by (Some p) e same none =
      ap (λ ps. placed (map f cs) ps (drop i ts)) (at_drop takers i p e) ∙ ap (placed (map f cs) (p ∷ drop (i + 1) takers)) next_item
      ∙ ap (λ o. placed_by o t more_placed) (taker_none f cs p ds same none)

  pub placed_next : (old new next : Out) (kept more : Kept Value) (found : Option good.Good) → (ds ≡ [] → ⊥) → Placing old new k (map f cs) takers ts i kept
      → Walked new next found (outcome_under (Index i) (item_in k t (first (map f ds) t)))
      → (length next.errors ≡ length old.errors → more ≡ item_kept kept found) → Placing old next k (map f cs) takers ts (i + 1) more
  placed_next old new next kept more found some h w take_it =
      let p : Part = part (first (map f ds)) t in
      let opened : drop i all_placed ≡ p ∷ more_placed = h.rest ∙ opened_by (slice_get takers i) refl from some in
      record {
        going = subst (λ ps. Going old next k more ps) (sym (take_next all_placed i p _ opened))
            (going_more old new next k kept more (take i all_placed) p i found (taken_length all_placed i p _ opened) h.going w take_it);
        rest = drop_next all_placed i p _ opened;
      }

  -- past the positions
  pub placed_past : (old new : Out) (kept : Kept Value) → ds ≡ [] → Placing old new k (map f cs) takers ts i kept → Going old new k kept all_placed
  placed_past old new kept none h =
      subst (λ ps. Going old new k kept ps) (take_whole all_placed i (h.rest ∙ closed_by (slice_get takers i) refl from none)) h.going

no_items : (children : List Child) (ps : List ℕ) → placed children ps [] ≡ []
no_items children [] = refl
no_items children (p ∷ ps) = refl

-- after the last item
pub placed_all : (k : Collection) (children : List Child) (takers : List ℕ) (ts : List Tree) (i : ℕ) (old new : Out) (kept : Kept Value) → drop i ts ≡ []
    → Placing old new k children takers ts i kept → Going old new k kept (placed children takers ts)
placed_all k children takers ts i old new kept e h =
    subst (λ ps. Going old new k kept ps) (take_whole _ i (h.rest ∙ ap (placed children (drop i takers)) e ∙ no_items children (drop i takers))) h.going

-- one more missing position
missing_suc : (i n : ℕ) (t : Tree) → missing_from i (suc n) t ≡ missing_from i n t ++ missing_from (i + n) 1 t
missing_suc i zero t = let same : i ≡ i + 0 = omega arith in ap (λ k. missing_from k 1 t) same
missing_suc i (suc n) t =
    let first_one : LineError = record { kind = kind.Missing; loc = Index i ∷ []; input = t } in
    let place : i + 1 + n ≡ i + suc n = omega arith in
    ap (λ more. first_one ∷ more) (missing_suc (i + 1) n t ∙ ap (λ k. missing_from (i + 1) n t ++ missing_from k 1 t) place)

pub missing_next : (old new next : Out) (i n : ℕ) (t : Tree) → Adds old new (missing_from i n t) → Adds new next (missing_from (i + n) 1 t) → Adds old next (missing_from i (n + 1) t)
missing_next old new next i n t a b =
    adds_same old next _ _ (sym (missing_suc i n t) ∙ ap (λ k. missing_from i k t) (sym (add-one n))) (adds_both old new next _ _ a b)
