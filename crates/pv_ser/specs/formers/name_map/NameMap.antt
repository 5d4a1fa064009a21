-- `NameMap` as a type that may hold the type that holds it.
use Rattle.std.specs.Prelude.{ℕ, ◌∷◌, map}
use mathlib.Core.Path.{◌≡◌, refl, sym, ap}
use mathlib.Core.List.{List, []}
use mathlib.Core.Former.{Former, this, list, const, pair, via, children}
use base.Stored.{code_map, gcons, coded×, coded_list, coded_ℕ}
use denote.RattleType.{RattleType}
use denote.HoleLaws.{Alike}
use denote.HolePlaces.{Recodes, struct_places, laid}
use denote.Hole.Carrier.{listed}
use denote.Hole.Fix.{over}
use denote.Param.Weighed.{Weighed, w_list, w_pair, w_const}
use denote.Model.Placed.{view_places}
use Rattle.std_collections.specs.formers.btree_map.BTreeMap as btree
use Rattle.std.specs.declared.alloc.Global.{Global}
use Rattle.std.specs.contracts.alloc.Global as heap
use Rattle.std.specs.contracts.impls.GlobalAllocator.TheImpl as given
use Rattle.pv_text.specs.contracts.Text as text
use Rattle.pv_text.specs.contracts.text.TextOrd.TheImpl as ordered
use Rattle.pv_text.specs.contracts.text.TextPartialEq.TheImpl as equal
use Rattle.pv_text.specs.contracts.text.TextPartialOrd.TheImpl as partial
use Rattle.pv_ser.specs.declared.name_map.NameMap.TheInside.{Inside}
use Rattle.pv_ser.specs.declared.name_map.NameMap.TheView.{view, invariant}
use Rattle.pv_ser.specs.contracts.name_map.NameMap as C
use Rattle.pv_ser.specs.contracts.name_map.NameMap.TheInside as I

-- a name beside one of g's values
abbrev pub entry : Former {0} → Former {0}
entry g = pair (const (List ℕ)) g

-- a function of the value under a name
abbrev pub on_value : {X Y : Type 0} → (X → Y) → List ℕ × X → List ℕ × Y
on_value h m = (m.0, h m.1)

-- names with g's values
abbrev pub the_former : Former {0} → Former {0}
the_former g = list (entry g)

-- it weighs as the list does
abbrev pub the_weighed : {g : Former {0}} → Weighed g → Weighed (the_former g)
the_weighed w = w_list (w_pair (w_const (List ℕ)) w)

-- no names
pub the_empty : List (List ℕ × ⊥)
the_empty = []

-- the values under the names
abbrev pub the_items : (X : Type 0) → List (List ℕ × X) → List X
the_items X ms = map (λ m. m.1) ms

-- they are what a walk through the former meets
pub the_items_listed : (X : Type 0) (ms : List (List ℕ × X)) → listed _ (children (the_former this) X ms) ≡ the_items X ms
the_items_listed X [] = refl
the_items_listed X (m ∷ ms) = ap (λ l. m.1 ∷ l) (the_items_listed X ms)

-- what it is made of
abbrev fields : Former {0}
fields = via (btree.the_former this (List ℕ) Global) Inside (λ X a. a.inner) (λ X m. record { inner = m }) (λ X a. refl) (λ X m. refl)

module _ (R S : RattleType) (h : R.Denot → S.Denot) where
  -- maps of types that look alike look alike
  pub the_places : Alike R S h → Alike (C.the_row R) (C.the_row S) ((the_former this).map R.Denot S.Denot h)
  the_places a =
      view_places fields (the_former this) view (λ X Y k u. refl) (λ X u. refl) R.Denot S.Denot h
      (C.the_row R).coded (C.the_row S).coded
      (invariant R.Denot) (invariant S.Denot) (λ u p q. refl) (λ u p q. refl) (λ u e. tt)
      (λ u e. tt)
      (over (I.the_row R)) (over (I.the_row S))
      (struct_places (I.the_type R) (I.the_type S) ((btree.the_former this (List ℕ) Global).map R.Denot S.Denot h, tt)
      _ (λ d. refl) refl
      (laid _ _ _ (btree.the_places text.the_row heap.the_row ordered.ghosts equal.ghosts partial.ghosts given.ghosts R S h a), tt))

  -- the codes of maps follow those of their values
  pub the_codes_placed : Recodes R S h → Recodes (C.the_row R) (C.the_row S) ((the_former this).map R.Denot S.Denot h)
  the_codes_placed e ms =
      sym (code_map (coded× (coded_list coded_ℕ) R.coded).code
      (coded× (coded_list coded_ℕ) S.coded).code (on_value h)
      (λ x i. gcons ((coded_list coded_ℕ).code x.0) (sym (e x.1) i)) ms)
