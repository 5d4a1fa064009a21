-- `MemberRow` as a type that may hold the type that holds it.
use Rattle.std.specs.Prelude.{ℕ, ◌∷◌, map, bytes_eq}
use Rattle.std.specs.List.{IsDistinct, IsDistinct-prop}
use mathlib.Core.Path.{◌≡◌, refl, sym, ap, subst}
use mathlib.Core.List.{List, []}
use mathlib.Core.Former.{Former, this, list, const, pair, via, such, children}
use base.Stored.{code_map, gcons, gnil, coded×, coded_list, coded_ℕ}
use base.Fml.{ftrue}
use denote.RattleType.{RattleType}
use denote.Memory.{part_of}
use denote.RawPtr.{Ptr}
use denote.Sharing.{nothing}
use denote.HoleLaws.{Alike}
use denote.HolePlaces.{Recodes, struct_places, laid, stays, one_value}
use denote.Hole.Carrier.{listed}
use denote.Hole.Fix.{over}
use denote.Param.Weighed.{Weighed, w_list, w_pair, w_const}
use denote.Struct.Tuple.{Tuple, tuple_type}
use denote.Model.Placed.{view_places}
use Rattle.std.specs.formers.vec.Vec as vec
use Rattle.std.specs.declared.rc.Rc.{Rc}
use Rattle.std.specs.contracts.rc.Rc as rc
use Rattle.std.specs.declared.alloc.Global.{Global}
use Rattle.std.specs.contracts.alloc.Global as heap
use Rattle.std.specs.contracts.impls.GlobalAllocator.TheImpl.{ghosts}
use Rattle.pv_text.specs.contracts.Text as text
use Rattle.pv_tree.specs.declared.member_row.MemberRow.TheInside.{Inside}
use Rattle.pv_tree.specs.declared.member_row.MemberRow.TheView.{view, invariant}
use Rattle.pv_tree.specs.contracts.member_row.MemberRow as C
use Rattle.pv_tree.specs.contracts.member_row.MemberRow.TheInside as I
use Rattle.pv_tree.specs.Names.{names, HasDistinctNames, Distinct, same_distinct}

-- a name beside one of g's values
abbrev pub entry : Former {0} → Former {0}
entry g = pair (const (List ℕ)) g

-- a function of the value of a member
abbrev pub on_value : {X Y : Type 0} → (X → Y) → List ℕ × X → List ℕ × Y
on_value h m = (m.0, h m.1)

-- it keeps the names
names_kept : {X Y : Type 0} (h : X → Y) (ms : List (List ℕ × X)) → names (map (on_value h) ms) ≡
    names ms
names_kept h [] = refl
names_kept h (m ∷ ms) = ap (λ l. m.0 ∷ l) (names_kept h ms)

-- so names that are distinct stay so
pub along : {X Y : Type 0} (h : X → Y) (ms : List (List ℕ × X)) → HasDistinctNames ms
    → HasDistinctNames (map (on_value h) ms)
along h ms d = subst (IsDistinct bytes_eq) (sym (names_kept h ms)) d

-- and they were distinct before
pub before : {X Y : Type 0} (h : X → Y) (ms : List (List ℕ × X))
    → HasDistinctNames (map (on_value h) ms) → HasDistinctNames ms
before h ms d = subst (IsDistinct bytes_eq) (names_kept h ms) d

-- a list of members, and that their names are distinct
abbrev pub apart : Former {0} → Former {0}
apart g =
    such (list (entry g)) (λ X ms. HasDistinctNames ms) (λ as'. HasDistinctNames as')
    (λ X ms. IsDistinct-prop bytes_eq _) (λ as'. IsDistinct-prop bytes_eq _)
    (λ X ms. along (g.shape X) ms) (λ X ms. before (g.shape X) ms)

-- members with distinct names, of g's values
abbrev pub the_former : Former {0} → Former {0}
the_former g =
    via (apart g) (λ X. Distinct (g.Of X)) (λ X d. (d.members, d.distinct))
    (λ X v. record { members = v.0; distinct = v.1 }) (λ X d. refl) (λ X v. refl)

-- it weighs as the list of its members does
abbrev pub the_weighed : {g : Former {0}} → Weighed g → Weighed (the_former g)
the_weighed w = record {
  weight = λ X μ d. (w_list (w_pair (w_const (List ℕ)) w)).weight X μ d.members;
  puts = λ X μ d. (w_list (w_pair (w_const (List ℕ)) w)).puts X μ d.members;
}

-- no members
pub the_empty : Distinct ⊥
unfolding IsDistinct
the_empty = record { members = []; distinct = tt }

-- the values of the members
abbrev pub the_items : (X : Type 0) → Distinct X → List X
the_items X d = map (λ m. m.1) d.members

-- a walk through a list of members meets their values
items_listed : (X : Type 0) (ms : List (List ℕ × X)) → listed _ (children (list (entry this)) X ms)
    ≡ map (λ m. m.1) ms
items_listed X [] = refl
items_listed X (m ∷ ms) = ap (λ l. m.1 ∷ l) (items_listed X ms)

-- they are what a walk through the former meets
pub the_items_listed : (X : Type 0) (d : Distinct X) → listed _ (children (the_former this) X d) ≡
    the_items X d
the_items_listed X d = items_listed X d.members

-- the pointer, and the vector behind it
abbrev held_vec : Former {0}
held_vec = pair (const Ptr) (vec.the_former (entry this) Global)

-- the same, and that the names in it are distinct
abbrev held_apart : Former {0}
held_apart =
    such held_vec (λ X v. HasDistinctNames v.1.items) (λ a. HasDistinctNames a.1.items)
    (λ X v. IsDistinct-prop bytes_eq _) (λ a. IsDistinct-prop bytes_eq _)
    (λ X v. along (λ x. tt) v.1.items) (λ X v. before (λ x. tt) v.1.items)

-- what a row of members is made of
abbrev fields : Former {0}
fields = via held_apart Inside (λ X a. ((a.inner.ptr, a.inner.value), a.distinct))
    (λ X v. record { inner = record { ptr = v.0.0; value = v.0.1 }; distinct = v.1 }) (λ X a. refl)
    (λ X v. refl)

-- a counted pointer with another value behind it
abbrev with_value : {X Y : Type 0} → Rc X Global → Y → Rc Y Global
with_value b y = record { ptr = b.ptr; value = y }

-- a counted pointer to a type
abbrev rc_of : RattleType → RattleType
rc_of R = rc.the_row R heap.the_row ghosts

module _ (R S : RattleType) (h : R.Denot → S.Denot) where
  -- types that look alike do so behind a counted pointer
  rc_places : Alike R S h → Alike (rc_of R) (rc_of S) (λ b. with_value b (h b.value))
  unfolding part_of
  rc_places a = record {
    mir_same = λ i. (rc_of (one_value R (a.mir_same i) (λ _. ftrue) (λ _ _. nothing) gnil)).mir;
    own_same =
        λ b i. (rc_of (one_value R (a.mir_same i) (a.own_same b.value i) (a.shr_same b.value i)
        gnil)).own_val (with_value b tt);
    shr_same =
        λ b i. (rc_of (one_value R (a.mir_same i) (a.own_same b.value i) (a.shr_same b.value i)
        gnil)).shr_at (with_value b tt);
  }

-- a member: a text beside a value of a type
abbrev member_of : RattleType → RattleType
member_of R = Tuple (text.the_row ∷ R ∷ [])

module _ (R S : RattleType) (h : R.Denot → S.Denot) where
  -- members of types that look alike look alike
  member_places : Alike R S h → Alike (member_of R) (member_of S) (on_value h)
  member_places a =
      struct_places (tuple_type (text.the_row ∷ R ∷ [])) (tuple_type (text.the_row ∷ S ∷ []))
      (λ n. n, (h, tt)) _ (λ d. refl) refl
      (stays text.the_row, (laid _ _ _ a, tt))

  -- rows of types that look alike look alike
  pub the_places : Alike R S h → Alike (C.the_row R) (C.the_row S)
      ((the_former this).map R.Denot S.Denot h)
  the_places a = view_places fields (the_former this) view
      (λ X Y k u. same_distinct (view Y (fields.map X Y k u))
      ((the_former this).map X Y k (view X u)) refl) (λ X u. refl) R.Denot S.Denot h
      (C.the_row R).coded (C.the_row S).coded
      (invariant R.Denot) (invariant S.Denot) (λ u p q. refl) (λ u p q. refl) (λ u e. tt)
      (λ u e. tt)
      (over (I.the_row R)) (over (I.the_row S))
      (struct_places (I.the_type R) (I.the_type S)
      ((λ b. with_value b (vec.mapped (on_value h) b.value)), tt) _ (λ d. refl) refl (
        laid _ _ _ (rc_places _ _ (vec.mapped (on_value h))
            (vec.the_places heap.the_row ghosts (member_of R) (member_of S) (on_value h)
            (member_places a))),
        tt,
      ))

  -- the codes of rows follow those of their items
  pub the_codes_placed : Recodes R S h → Recodes (C.the_row R) (C.the_row S)
      ((the_former this).map R.Denot S.Denot h)
  the_codes_placed e d =
      sym (code_map (coded× (coded_list coded_ℕ) R.coded).code
      (coded× (coded_list coded_ℕ) S.coded).code (on_value h)
      (λ x i. gcons ((coded_list coded_ℕ).code x.0) (sym (e x.1) i)) d.members)
