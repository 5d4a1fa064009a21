-- Members that are merged: distinct names stay as they are.
use Rattle.std.proofs.Common.{◌≡◌, ℕ, Bool, true, false, List, [], ◌∷◌, ◌++◌, refl, sym, ap, ◌∙◌, append-nil, append_assoc}
use Rattle.std.proofs.lemmas.Slice.Eq.{bytes_eq-Decides}
use Rattle.std.specs.Prelude.{bytes_eq}
use Rattle.std.specs.List.{AllByRecursion, IsDistinct}
use Rattle.pv_tree.specs.Names.{names, HasDistinctNames, Distinct, same_distinct}
use Rattle.pv_tree.specs.Merging.{put, put_all, merged, object_of}

apart_back : (a b : List ℕ) → bytes_eq a b ≡ false → bytes_eq b a ≡ false
apart_back a b e = by (bytes_eq b a) refl
  where
    by : (t : Bool) → bytes_eq b a ≡ t → bytes_eq b a ≡ false
    by true f = let g : bytes_eq a b ≡ true = (bytes_eq-Decides a b).1 (sym ((bytes_eq-Decides b a).0 f)) in absurd (cc)
    by false f = f

module _ {V : Type 0} where
  -- this name is none of those
  abbrev IsNew : List ℕ → List (List ℕ × V) → Type 0
  IsNew name ms = AllByRecursion (λ y. bytes_eq name y ≡ false) (names ms)

  put_new : (ms : List (List ℕ × V)) (name : List ℕ) (v : V) → IsNew name ms → put ms name v ≡ ms ++ (name, v) ∷ []
  put_new [] name v n = refl
  put_new (m ∷ ms) name v n = rw (n.0) (ap (λ z. m ∷ z) (put_new ms name v n.1))

  new_past : (name : List ℕ) (ms : List (List ℕ × V)) (m : List ℕ × V) → IsNew name ms → bytes_eq name m.0 ≡ false → IsNew name (ms ++ m ∷ [])
  new_past name [] m n e = (e, tt)
  new_past name (x ∷ ms) m n e = (n.0, new_past name ms m n.1 e)

  -- each of these is new beside those
  abbrev AreNew : List (List ℕ × V) → List (List ℕ × V) → Type 0
  AreNew done ms = AllByRecursion (λ m. IsNew m.0 done) ms

  all_new_past : (done ms : List (List ℕ × V)) (m : List ℕ × V) → AreNew done ms → IsNew m.0 ms → AreNew (done ++ m ∷ []) ms
  all_new_past done [] m n d = tt
  all_new_past done (x ∷ ms) m n d = (new_past x.0 done m n.0 (apart_back m.0 x.0 d.0), all_new_past done ms m n.1 d.1)

  put_all_new : (done ms : List (List ℕ × V)) → AreNew done ms → HasDistinctNames ms → put_all done ms ≡ done ++ ms
  unfolding IsDistinct
  put_all_new done [] n d = sym (append-nil done)
  put_all_new done (m ∷ ms) n d =
      ap (λ z. put_all z ms) (put_new done m.0 m.1 n.0)
      ∙ put_all_new (done ++ m ∷ []) ms (all_new_past done ms m n.1 d.0) d.1
      ∙ append_assoc done (m ∷ []) ms

  all_new : (ms : List (List ℕ × V)) → AreNew [] ms
  all_new [] = tt
  all_new (m ∷ ms) = (tt, all_new ms)

  merged_same : (ms : List (List ℕ × V)) → HasDistinctNames ms → merged ms ≡ ms
  unfolding merged
  merged_same ms d = put_all_new [] ms (all_new ms) d

  -- the object that members with distinct names make
  pub object_same : (d : Distinct V) → object_of d.members ≡ d
  object_same d = same_distinct (object_of d.members) d (merged_same d.members d.distinct)

  module _ (P : List ℕ → Type 0) (Q : V → Type 0) where
    -- members whose names are of P and whose values are of Q
    abbrev AreOf : List (List ℕ × V) → Type 0
    AreOf ms = AllByRecursion (λ m. P m.0 × Q m.1) ms

    put_keeps : (ms : List (List ℕ × V)) (name : List ℕ) (v : V) → AreOf ms → P name → Q v → AreOf (put ms name v)
    put_keeps [] name v a p q = ((p, q), tt)
    put_keeps (m ∷ ms) name v a p q = by (bytes_eq name m.0) refl (put_keeps ms name v a.1 p q)
      where
        by : (t : Bool) → bytes_eq name m.0 ≡ t → AreOf (put ms name v) → AreOf (put (m ∷ ms) name v)
        by true f more = rw f ((a.0.0, q), a.1)
        by false f more = rw f (a.0, more)

    put_all_keeps : (done ms : List (List ℕ × V)) → AreOf done → AreOf ms → AreOf (put_all done ms)
    put_all_keeps done [] d a = d
    put_all_keeps done (m ∷ ms) d a = put_all_keeps (put done m.0 m.1) ms (put_keeps done m.0 m.1 d a.0.0 a.0.1) a.1

    pub merged_keeps : (ms : List (List ℕ × V)) → AreOf ms → AreOf (merged ms)
    unfolding merged
    merged_keeps ms a = put_all_keeps [] ms tt a
