-- Members of an object, of which a repeated name keeps its first place and takes its last value.
use Rattle.std.specs.Prelude.{◌≡◌, ℕ, Bool, true, false, List, [], ◌∷◌, if◌then◌else◌, bytes_eq, refl, Option}
use Rattle.std.specs.declared.cmp.Ordering.{Ordering}
use Rattle.std.specs.BTreeMap.{BTreeMap, get}
use Rattle.std.specs.Cmp.Lexicographic.{slice_cmp, nat_list_eq_equiv}
use Rattle.std.specs.Ordering.{nat_cmp}
use Rattle.std.specs.List.{position_from, IsDistinct, AllByRecursion}
use mathlib.Core.Path.{◌∙◌}
use Rattle.pv_tree.specs.Names.{names, HasDistinctNames, Distinct}

-- the order of names, by their bytes
abbrev pub name_cmp : List ℕ → List ℕ → Ordering
name_cmp = slice_cmp nat_cmp

module _ {V : Type 0} where
  -- the members when one more was read
  abbrev pub put : List (List ℕ × V) → List ℕ → V → List (List ℕ × V)
  put [] name v = (name, v) ∷ []
  put (m ∷ ms) name v = if bytes_eq name m.0 then (m.0, v) ∷ ms else m ∷ put ms name v

  -- the members when several more were read
  abbrev pub put_all : List (List ℕ × V) → List (List ℕ × V) → List (List ℕ × V)
  put_all done [] = done
  put_all done (m ∷ ms) = put_all (put done m.0 m.1) ms

  -- the members of an object that is written so
  unfoldable pub merged : List (List ℕ × V) → List (List ℕ × V)
  merged ms = put_all [] ms

  -- no member has this name
  abbrev IsOther : List ℕ → List (List ℕ × V) → Type 0
  IsOther x ms = AllByRecursion (λ y. bytes_eq x y ≡ false) (names ms)

  -- another name stays other when a member is put
  other_by : (b : Bool) (x name : List ℕ) (v : V) (m : List ℕ × V) (ms more : List (List ℕ × V))
      → IsOther x (m ∷ ms) → IsOther x more → IsOther x (if b then (m.0, v) ∷ ms else m ∷ more)
  other_by true x name v m ms more a r = a
  other_by false x name v m ms more a r = (a.0, r)

  other : (x name : List ℕ) (v : V) (ms : List (List ℕ × V)) → bytes_eq x name ≡ false
      → IsOther x ms
      → IsOther x (put ms name v)
  other x name v [] e a = (e, tt)
  other x name v (m ∷ ms) e a =
      other_by (bytes_eq name m.0) x name v m ms (put ms name v) a (other x name v ms e a.1)

  -- names stay distinct when a member is put
  distinct_by : (b : Bool) (name : List ℕ) (v : V) (m : List ℕ × V) (ms more : List (List ℕ × V))
      → HasDistinctNames (m ∷ ms) → (b ≡ false → HasDistinctNames (m ∷ more))
      → HasDistinctNames (if b then (m.0, v) ∷ ms else m ∷ more)
  unfolding IsDistinct
  distinct_by true name v m ms more d r = d
  distinct_by false name v m ms more d r = r refl

  put_distinct : (name : List ℕ) (v : V) (ms : List (List ℕ × V)) → HasDistinctNames ms
      → HasDistinctNames (put ms name v)
  unfolding IsDistinct
  put_distinct name v [] d = (tt, tt)
  put_distinct name v (m ∷ ms) d = distinct_by (bytes_eq name m.0) name v m ms (put ms name v) d
      (λ e. (
        other m.0 name v ms (nat_list_eq_equiv.symm m.0 name ∙ e) d.0,
        put_distinct name v ms d.1,
      ))

  all_distinct : (done ms : List (List ℕ × V)) → HasDistinctNames done
      → HasDistinctNames (put_all done ms)
  all_distinct done [] d = d
  all_distinct done (m ∷ ms) d = all_distinct (put done m.0 m.1) ms (put_distinct m.0 m.1 done d)

  -- merged members have distinct names
  pub merged_distinct : (ms : List (List ℕ × V)) → HasDistinctNames (merged ms)
  unfolding merged IsDistinct
  merged_distinct ms = all_distinct [] ms tt

  -- the object that is written with these members
  abbrev pub object_of : List (List ℕ × V) → Distinct V
  object_of ms = record { members = merged ms; distinct = merged_distinct ms }

  -- where the first member of this name stands
  abbrev pub place_of : List (List ℕ × V) → List ℕ → Option ℕ
  place_of ms name = position_from (λ m. bytes_eq name m.0) 0 ms

  -- the places of the members by their names
  abbrev pub IsIndex : BTreeMap (List ℕ) ℕ → List (List ℕ × V) → Type 0
  IsIndex places ms = (name : List ℕ) → get name_cmp places name ≡ place_of ms name
