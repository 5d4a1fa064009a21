-- Where marks are right, exactly the nodes that are marked as cyclic reach themselves.
use Rattle.std.proofs.Common.{◌≡◌, ℕ, zero, suc, ◌+◌, ◌<◌, ◌≤◌, Bool, true, false, List, [], ◌∷◌, ◌++◌, map, length, get_or, refl, sym, ap, ◌∙◌, subst, ◌⊎◌, inl, inr, ⊎_elim, arith}
use Rattle.std.specs.Prelude.{Option, None, Some, slice_get, Contains, ◌↔◌}
use Rattle.std.specs.Option.{option_map}
use mathlib.Core.Bool.{beq}
use Rattle.std.proofs.lemmas.Bool.{cases_lt}
use Rattle.std.proofs.lemmas.List.{length-map}
use Rattle.std.proofs.lemmas.List.Elements.{All-contains}
use Rattle.std.proofs.lemmas.Option.{slice_get_within, slice_get_cases, get_or_from_slice_get, slice_get-map}
use Rattle.pv_graph.specs.declared.marks.Mark.{Mark}
use Rattle.pv_graph.specs.Walks.{Leads, IsWalk, ReachesItself}
use Rattle.pv_graph.specs.Marks.{IsNoHigher, IsBelow, NearsRoot, IsSound, AreSound}
use Rattle.pv_graph.specs.Cycles.{MarksCycles}
use Rattle.pv_graph.proofs.LongestWalks.{leads_from}
use Rattle.pv_graph.proofs.JoinedWalks.{joined}

-- the marks of the nodes below n are right
abbrev pub AreSoundTo : List (List ℕ) → List Mark → ℕ → Type 0
AreSoundTo g ms n = (i : ℕ) (m : Mark) → i < n → slice_get ms i ≡ Some m → IsSound g ms i m

-- one more mark is right
pub sound_more : (g : List (List ℕ)) (ms : List Mark) (n k : ℕ) (d : Mark) → AreSoundTo g ms n → n < length ms → k ≡ n → IsSound g ms k (get_or ms n d) → AreSoundTo g ms (n + 1)
sound_more g ms n k d a l q here i p w e = ⊎_elim
    (λ less. a i p less e)
    (λ past. let s : n ≡ i = omega arith in
    let t : get_or ms n d ≡ p = ap (λ x. get_or ms x d) s ∙ get_or_from_slice_get ms i p d e in
    subst (λ x. IsSound g ms i x) t (subst (λ x. IsSound g ms x (get_or ms n d)) (q ∙ s) here))
    (cases_lt i n)

-- all marks are
pub sound_all : (g : List (List ℕ)) (ms : List Mark) (n : ℕ) → length ms ≡ length g → length ms ≤ n → AreSoundTo g ms n → AreSound g ms
sound_all g ms n e l a = record { counted = e; sound = λ i m f. let w : i < length ms = slice_get_within ms i m f in a i m (omega arith) f }

is_true : (b : Bool) → beq b true ≡ true → b ≡ true
is_true true h = refl
is_true false h = h

-- what a search for a true flag says
pub some_true : (bs : List Bool) → (k : ℕ) × (k < length bs) × ((d : Bool) → beq (get_or bs k d) true ≡ true) → Contains bs true
some_true bs x = (x.0, x.1, is_true (get_or bs x.0 true) (x.2 true))

module _ (g : List (List ℕ)) (ms : List Mark) (a : AreSound g ms) where
  -- each node has a mark
  marked : (i : ℕ) → i < length g → (m : Mark) × (slice_get ms i ≡ Some m)
  marked i l = ⊎_elim (λ x. (x.0, x.2)) (λ p. absurd (omega (arith, p.0, l, a.counted))) (slice_get_cases ms i).1

  within : (i : ℕ) (m : Mark) → slice_get ms i ≡ Some m → i < length g
  within i m e = omega (arith, slice_get_within ms i m e, a.counted)

  -- an edge leads to no lower component
  rises : (i k : ℕ) (m n : Mark) → slice_get ms i ≡ Some m → slice_get ms k ≡ Some n → Leads g i k → IsNoHigher m n
  rises i k m n e f l = All-contains (IsBelow ms m) (get_or g i []) k (a.sound i m e).below l.listed n f

  -- nor does a walk
  stays : (i : ℕ) (ks : List ℕ) (j : ℕ) (m n : Mark) → slice_get ms i ≡ Some m → slice_get ms j ≡ Some n → IsWalk g i ks j → m.component ≤ n.component
  stays i [] j m n e f w =
      let h : Some m ≡ Some n = sym e ∙ ap (slice_get ms) w ∙ f in
      let s : m ≡ n = cc in
      let c : m.component ≡ n.component = ap (λ (x : Mark). x.component) s in
      omega arith
  stays i (k ∷ ks) j m n e f w =
      let p = marked k w.0.within in
      let r : m.component ≤ p.0.component = (rises i k m p.0 e p.1 w.0).component in
      let s : p.0.component ≤ n.component = stays k ks j p.0 n p.1 f w.1 in
      omega arith

  -- so none comes back to a node that is not cyclic
  apart : (i : ℕ) (m : Mark) → slice_get ms i ≡ Some m → m.cyclic ≡ false → ¬ ReachesItself g i
  apart i m e c r =
      let p = marked r.0 r.2.0.within in
      let up : m.component < p.0.component = (rises i r.0 m p.0 e p.1 r.2.0).apart c in
      let back : p.0.component ≤ m.component = stays r.0 r.1 i p.0 m p.1 e r.2.1 in
      omega arith

  -- the edge by which a cyclic node nears its root
  edge : (i : ℕ) (m : Mark) → (n : NearsRoot ms i m (get_or g i [])) → Leads g i n.next
  edge i m n = record { listed = n.listed; within = within n.next n.mark n.found }

  -- from a cyclic node a walk leads to its root, by numbers that fall
  to_root : (n i : ℕ) (m : Mark) → slice_get ms i ≡ Some m → m.cyclic ≡ true → m.to_root < n → (ks : List ℕ) × IsWalk g i ks m.root
  to_root zero i m e c l = absurd (omega arith)
  to_root (suc n) i m e c l =
      let near = (a.sound i m e).nears c in
      ⊎_elim (λ z. ([], z))
      (λ s. let r = to_root n near.next near.mark near.found near.cyclic (omega (arith, s, l)) in
      (near.next ∷ r.0, (edge i m near, subst (λ x. IsWalk g near.next r.0 x) near.same r.1)))
      near.nearer

  -- and one leads back, by numbers that fall towards the root
  from_root : (n i : ℕ) (m : Mark) → slice_get ms i ≡ Some m → m.cyclic ≡ true → m.from_root < n → (ks : List ℕ) × IsWalk g m.root ks i
  from_root zero i m e c l = absurd (omega arith)
  from_root (suc n) i m e c l =
      ⊎_elim (λ z. ([], sym z))
      (λ s. let r = from_root n m.parent s.mark s.found s.cyclic (omega (arith, s.nearer, l)) in
      let step : Leads g m.parent i = record {
        listed = (m.place, slice_get_within (get_or g m.parent []) m.place i s.edge, get_or_from_slice_get (get_or g m.parent []) m.place i i s.edge);
        within = within i m e;
      } in
      (r.0 ++ i ∷ [], joined g m.root r.0 m.parent (i ∷ []) i (subst (λ x. IsWalk g x r.0 m.parent) s.same r.1) (step, refl)))
      ((a.sound i m e).comes c)

  -- so a cyclic node reaches itself
  reaches : (i : ℕ) (m : Mark) → slice_get ms i ≡ Some m → m.cyclic ≡ true → ReachesItself g i
  reaches i m e c =
      let near = (a.sound i m e).nears c in
      let there = to_root (suc near.mark.to_root) near.next near.mark near.found near.cyclic (omega arith) in
      let back = from_root (suc m.from_root) i m e c (omega arith) in
      (near.next, there.0 ++ back.0, (edge i m near, joined g near.next there.0 m.root back.0 i (subst (λ x. IsWalk g near.next there.0 x) near.same there.1) back.1))

  flag_of : (o : Option Mark) → option_map (λ (m : Mark). m.cyclic) o ≡ Some true → (m : Mark) × (o ≡ Some m) × (m.cyclic ≡ true)
  flag_of None h = cc
  flag_of (Some m) h = (m, refl, cc)

  decided : (b : Bool) → (b ≡ true) ⊎ (b ≡ false)
  decided true = inl refl
  decided false = inr refl

  -- the flags are true of exactly the nodes that do
  told : (i : ℕ) → (slice_get (map (λ (m : Mark). m.cyclic) ms) i ≡ Some true) ↔ ReachesItself g i
  told i = (
    (λ h. let f = flag_of (slice_get ms i) (sym (slice_get-map (λ (m : Mark). m.cyclic) ms i) ∙ h) in reaches i f.0 f.1 f.2),
    (λ r. let p = marked i (leads_from g i r.0 r.2.0) in
        ⊎_elim
        (λ c. slice_get-map (λ (m : Mark). m.cyclic) ms i ∙ ap (option_map (λ (m : Mark). m.cyclic)) p.1 ∙ ap Some c)
        (λ c. absurd (apart i p.0 p.1 c r))
        (decided p.0.cyclic)),
  )

  pub flags_tell : (flags : List Bool) → flags ≡ map (λ (m : Mark). m.cyclic) ms → Contains flags true → MarksCycles g flags
  flags_tell flags e s = subst (λ x. MarksCycles g x) (sym e) (record {
    counted = length-map ms (λ (m : Mark). m.cyclic) ∙ a.counted;
    told = told;
    some = subst (λ x. Contains x true) e s;
  })
