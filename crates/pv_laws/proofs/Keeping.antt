-- What sets and dicts keep, value by value.
use Rattle.std.proofs.Common.{◌≡◌, ℕ, zero, suc, ◌<◌, Bool, true, false, cond, List, [], ◌∷◌, ◌++◌, map, length, slice_index_or, refl, subst, ◌∙◌, arith}
use Rattle.std.specs.List.{AllByRecursion, Contains, list_any}
use Rattle.pv_tree.specs.declared.Value.{Value}
use Rattle.pv_tree.specs.declared.Value.TheVariants as value
use Rattle.pv_equality.specs.Equality.{same}
use Rattle.pv_equality.specs.Merging.{first_behind, first_of_each, last_value, merged_entries}
use Rattle.pv_equality.proofs.Anys.{or_left, or_right, neither_left, neither_right, not_true}
use Rattle.pv_equality.proofs.Inclusion.{each_so}
use Rattle.pv_equality.proofs.Keeping.{any_same, as_among_all, first_distinct}
use Rattle.pv_equality.proofs.Levels.{same_refl, same_symm, same_trans}
use Rattle.pv_laws.specs.Kept.{HasSame, AreKept, HasNoKey}

-- each value is the same as one of all, and so as one of the kept
each_has : (vs : List Value) → AllByRecursion (HasSame vs) vs
each_has [] = tt
each_has (v ∷ vs) =
    (or_left (same v v) (any_same vs v) (same_refl v), each_so (HasSame vs) (λ w h. or_right (same v w) (any_same vs w) h) vs (each_has vs))

pub keeps : (vs : List Value) → AreKept vs (first_of_each vs)
keeps vs = record {
  distinct = first_distinct vs;
  whole = each_so (HasSame vs) (λ w h. as_among_all vs w ∙ h) vs (each_has vs);
}

module _ {X : Type 0} (P : X → Type 0) where
  at_place : (xs : List X) (k : ℕ) (x : X) → AllByRecursion P xs → k < length xs → P (slice_index_or xs k x)
  at_place [] k x ps l = absurd (omega arith)
  at_place (y ∷ ys) zero x ps l = ps.0
  at_place (y ∷ ys) (suc k) x ps l = at_place ys k x ps.1 (omega arith)

module _ (P : Value → Type 0) where
  kept_one : (b : Bool) (v : Value) (ks : List Value) → P v → AllByRecursion P ks → AllByRecursion P (cond b [] (v ∷ []) ++ ks)
  kept_one true v ks p ps = ps
  kept_one false v ks p ps = (p, ps)

  kept_all : (before vs : List Value) → AllByRecursion P vs → AllByRecursion P (first_behind before vs)
  kept_all before [] ps = tt
  kept_all before (v ∷ vs) ps = kept_one (any_same before v) v (first_behind (before ++ v ∷ []) vs) ps.0 (kept_all (before ++ v ∷ []) vs ps.1)

each_behind : (y : Value) (ys xs : List Value) → AllByRecursion (Contains ys) xs → AllByRecursion (Contains (y ∷ ys)) xs
each_behind y ys [] ps = tt
each_behind y ys (x ∷ xs) ps = ((suc ps.0.0, omega arith, ps.0.2), each_behind y ys xs ps.1)

each_contained : (vs : List Value) → AllByRecursion (Contains vs) vs
each_contained [] = tt
each_contained (v ∷ vs) = ((zero, omega arith, refl), each_behind v vs vs (each_contained vs))

pub keeps_nothing_else : (vs : List Value) (v : Value) → Contains (first_of_each vs) v → Contains vs v
unfolding first_of_each
keeps_nothing_else vs v c = subst (Contains vs) c.2 (at_place (Contains vs) (first_of_each vs) c.0 v (kept_all (Contains vs) [] vs (each_contained vs)) c.1)

-- the value of the last entry with an equal key
last_stays : (k v l : Value) (es : List (Value × Value)) → same k l ≡ true → HasNoKey es l → last_value k v es ≡ v
last_stays k v l [] h n = refl
last_stays k v l (e ∷ es) h n =
    (λ i. last_value k (cond (not_true (same k e.0) (same e.0 l) (λ g. same_trans e.0 k l (same_symm k e.0 g) h) (neither_left (same e.0 l) (list_any (λ x. same x.0 l) es) n) i) e.1 v) es)
    ∙ last_stays k v l es h (neither_right (same e.0 l) (list_any (λ x. same x.0 l) es) n)

last_told : (k v : Value) (before : List (Value × Value)) (e : Value × Value) (after : List (Value × Value)) → same k e.0 ≡ true → HasNoKey after e.0
    → last_value k v (before ++ e ∷ after) ≡ e.1
last_told k v [] e after h n = (λ i. last_value k (cond (h i) e.1 v) after) ∙ last_stays k e.1 e.0 after h n
last_told k v (x ∷ before) e after h n = last_told k (cond (same k x.0) x.1 v) before e after h n

abbrev Takes : Value × Value → Value × Value → Type 0
Takes e d = same d.0 e.0 ≡ true → d.1 ≡ e.1

all_take : (ks : List Value) (before : List (Value × Value)) (e : Value × Value) (after : List (Value × Value)) → HasNoKey after e.0
    → AllByRecursion (Takes e) (map (λ k. (k, last_value k value.None (before ++ e ∷ after))) ks)
all_take [] before e after n = tt
all_take (k ∷ ks) before e after n = (λ h. last_told k value.None before e after h n, all_take ks before e after n)

pub last_values : (before : List (Value × Value)) (e : Value × Value) (after : List (Value × Value)) (d : Value × Value) → HasNoKey after e.0
    → Contains (merged_entries (before ++ e ∷ after)) d → same d.0 e.0 ≡ true → d.1 ≡ e.1
unfolding merged_entries
last_values before e after d n c =
    subst (Takes e) c.2
    (at_place (Takes e) (merged_entries (before ++ e ∷ after)) c.0 d (all_take (first_of_each (map (λ x. x.0) (before ++ e ∷ after))) before e after n) c.1)
