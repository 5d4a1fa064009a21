-- The members that are extra, as one field after another takes its own.
use Rattle.std.proofs.Common.{◌≡◌, ℕ, suc, ◌+◌, ◌-◌, ◌<◌, ◌≤◌, Bool, true, false, not, ◌&&◌, ◌||◌, cond, List, [], ◌∷◌, ◌++◌, map, length, get_or, take, replicate, slice_set, refl, sym, ap, subst, ◌∙◌, append-nil, arith, bytes_eq}
use Rattle.std.specs.Prelude.{Option, None, Some, slice_get}
use Rattle.std.specs.List.{AllByRecursion, IsDistinct, list_any}
use Rattle.std.specs.Option.{option_and_then, option_map, option_to_list}
use Rattle.std.specs.Cmp.Lexicographic.{bytes_decides, nat_list_eq_equiv}
use Rattle.std.proofs.lemmas.Grind.{flat_map-append}
use Rattle.std.proofs.lemmas.List.{take_more, take_all, map_more, map-append, length-map}
use Rattle.std.proofs.lemmas.Option.{get_or_from_slice_get, slice_get-get_or, slice_get-map, slice_get_within}
use Rattle.std.proofs.lemmas.List.Folds.{list_any-append}
use Rattle.pv_tree.specs.declared.Step.{Step}
use Rattle.pv_tree.specs.declared.Step.TheVariants.{Name, Index}
use Rattle.pv_tree.specs.declared.Tree.{Tree, out-Tree}
use Rattle.pv_tree.specs.declared.tree.Tree.TheOpen.{Tree-F}
use Rattle.pv_tree.specs.Merging.{place_of}
use Rattle.pv_tree.specs.Names.{HasDistinctNames}
use Rattle.pv_tree.specs.Parts.{members_at}
use Rattle.pv_rules.specs.declared.FieldRule.{FieldRule}
use Rattle.pv_rules.specs.declared.Settings.{Settings}
use Rattle.pv_fields.specs.Paths.{paths_of}
use Rattle.pv_paths.specs.declared.found.Found.{Found}
use Rattle.pv_fields.specs.declared.field_paths.FieldPaths.{FieldPaths}
use Rattle.pv_paths.specs.Following.{found}
use Rattle.pv_fields.specs.Finding.{Finds, found_field, begins, is_extra, members_or_none, members_in, taken_path, taken_paths}
use Rattle.pv_paths.specs.Following.{hit}
use Rattle.pv_fields.specs.Planned.{begin_place, field_paths, marked, taken_by, taken_member}
use Rattle.pv_fields.proofs.Placing.{place_from, place_least}

-- a name that is not the one leaves a test as it is
kept_by : (a b : Bool) → b ≡ false → (a && not b) ≡ a
kept_by true b e = ap not e
kept_by false b e = refl

gone_by : (a b : Bool) → b ≡ true → (a && not b) ≡ false
gone_by true b e = ap not e
gone_by false b e = refl

abbrev mark_from : ℕ → List Bool → Option ℕ → List Bool
mark_from i bs None = bs
mark_from i bs (Some k) = slice_set bs (k - i) false

same_name : (x y : List ℕ) → bytes_eq x y ≡ true → x ≡ y
same_name x y s = (bytes_decides x y).0 s

pushed : (b : Bool) (i : ℕ) (bs : List Bool) (o : Option ℕ) → ((k : ℕ) → o ≡ Some k → i + 1 ≤ k) → b ∷ mark_from (i + 1) bs o ≡ mark_from i (b ∷ bs) o
pushed b i bs None f = refl
pushed b i bs (Some k) f =
    let least : i + 1 ≤ k = f k refl in
    let next : suc (k - (i + 1)) ≡ k - i = omega arith in
    ap (λ j. slice_set (b ∷ bs) j false) next

module _ {V : Type 0} (e : List ℕ → Bool) (name : List ℕ) where
  abbrev before : List (List ℕ × V) → List Bool
  before ms = map (λ m. e m.0) ms

  abbrev after : List (List ℕ × V) → List Bool
  after ms = map (λ m. e m.0 && not (bytes_eq m.0 name)) ms

  untouched : (ms : List (List ℕ × V)) → AllByRecursion (λ y. bytes_eq name y ≡ false) (map (λ m. m.0) ms) → after ms ≡ before ms
  untouched [] a = refl
  untouched (x ∷ ms) a = λ i. kept_by (e x.0) (bytes_eq x.0 name) (nat_list_eq_equiv.symm x.0 name ∙ a.0) i ∷ untouched ms a.1 i

  mark_by : (c : Bool) (i : ℕ) (x : List ℕ × V) (ms : List (List ℕ × V)) → bytes_eq name x.0 ≡ c → HasDistinctNames (x ∷ ms)
      → after ms ≡ mark_from (i + 1) (before ms) (place_from (i + 1) ms name) → after (x ∷ ms) ≡ mark_from i (before (x ∷ ms)) (cond c (Some i) (place_from (i + 1) ms name))
  unfolding IsDistinct
  mark_by true i x ms s d more =
      let none : 0 ≡ i - i = omega arith in
      let rest : after ms ≡ before ms =
      untouched ms (subst (λ n. AllByRecursion (λ y. bytes_eq n y ≡ false) (map (λ m. m.0) ms)) (sym (same_name name x.0 s)) d.0) in
      (λ j. gone_by (e x.0) (bytes_eq x.0 name) (nat_list_eq_equiv.symm x.0 name ∙ s) j ∷ rest j)
      ∙ ap (λ k. slice_set (before (x ∷ ms)) k false) none
  mark_by false i x ms s d more =
      (λ j. kept_by (e x.0) (bytes_eq x.0 name) (nat_list_eq_equiv.symm x.0 name ∙ s) j ∷ more j)
      ∙ pushed (e x.0) i (before ms) (place_from (i + 1) ms name) (place_least (i + 1) ms name)

  mark_all : (i : ℕ) (ms : List (List ℕ × V)) → HasDistinctNames ms → after ms ≡ mark_from i (before ms) (place_from i ms name)
  unfolding IsDistinct
  mark_all i [] d = refl
  mark_all i (x ∷ ms) d = mark_by (bytes_eq name x.0) i x ms refl d (mark_all (i + 1) ms d.1)

-- one more path, where there is one
module _ (t : Tree) (d : HasDistinctNames (members_in t)) where
  abbrev flags : List (List Step) → List Bool
  flags ps = map (λ m. is_extra ps m.0) (members_in t)

  abbrev told : (List ℕ → Bool) → List Bool
  told f = map (λ m. f m.0) (members_in t)

  or_none : (a : Bool) → not (a || false) ≡ not a
  or_none true = refl
  or_none false = refl

  or_not : (a b : Bool) → not (a || (b || false)) ≡ (not a && not b)
  or_not true b = refl
  or_not false true = refl
  or_not false false = refl

  more_by : (ps : List (List Step)) (p : List Step) (name : List ℕ) → is_extra (ps ++ p ∷ []) name ≡ not (list_any (begins name) ps || list_any (begins name) (p ∷ []))
  more_by ps p name = ap not (list_any-append (begins name) ps (p ∷ []))

  -- a path that begins with no name
  same_flags : (ps : List (List Step)) (p : List Step) → ((name : List ℕ) → begins name p ≡ false) → flags (ps ++ p ∷ []) ≡ flags ps
  same_flags ps p none =
      λ j. map (λ m. (more_by ps p m.0 ∙ ap (λ b. not (list_any (begins m.0) ps || (b || false))) (none m.0) ∙ or_none (list_any (begins m.0) ps)) j) (members_in t)

  -- a path that begins with a name
  named_flags : (ps : List (List Step)) (name : List ℕ) (steps : List Step)
      → flags (ps ++ (Name name ∷ steps) ∷ []) ≡ map (λ m. is_extra ps m.0 && not (bytes_eq m.0 name)) (members_in t)
  named_flags ps name steps =
      λ j. map (λ m. (more_by ps (Name name ∷ steps) m.0 ∙ or_not (list_any (begins m.0) ps) (bytes_eq m.0 name)) j) (members_in t)

  marked_as : (bs : List Bool) (o : Option ℕ) → mark_from 0 bs o ≡ marked bs o
  marked_as bs None = refl
  marked_as bs (Some k) = let whole : k - 0 ≡ k = omega arith in ap (λ j. slice_set bs j false) whole

  one_path : (ps : List (List Step)) (p : List Step) → flags (ps ++ p ∷ []) ≡ marked (flags ps) (begin_place (members_in t) p)
  one_path ps [] = same_flags ps [] (λ name. refl)
  one_path ps (Name name ∷ steps) =
      named_flags ps name steps ∙ mark_all (is_extra ps) name 0 (members_in t) d ∙ marked_as (flags ps) (place_of (members_in t) name)
  one_path ps (Index place ∷ steps) = same_flags ps (Index place ∷ steps) (λ name. refl)

  one_more : (ps : List (List Step)) (o : Option (List Step)) → flags (ps ++ (option_to_list o ++ [])) ≡ marked (flags ps) (option_and_then (begin_place (members_in t)) o)
  one_more ps None = ap flags (append-nil ps)
  one_more ps (Some p) = one_path ps p

  taken_as : (ps : List (List Step)) (o : Option (ℕ × Tree)) → taken_by ps t o ≡ option_and_then (begin_place (members_in t)) (option_and_then (λ hit. slice_get ps hit.0) o)
  taken_as ps None = refl
  taken_as ps (Some hit) = refl

  pub marks_more : (s : Settings) (fs : List FieldRule) (i : ℕ) (f : FieldRule) → i < length fs
      → marked (flags (taken_paths s t (take i fs))) (taken_member (paths_of s (get_or fs i f)) t) ≡ flags (taken_paths s t (take (i + 1) fs))
  marks_more s fs i f l =
      let g = get_or fs i f in
      ap (marked (flags (taken_paths s t (take i fs)))) (taken_as (paths_of s g) (found (paths_of s g) t))
      ∙ sym (ap (λ xs. flags (taken_paths s t xs)) (take_more fs i f l)
      ∙ ap flags (flat_map-append (λ h. option_to_list (taken_path s t h)) (take i fs) (g ∷ [])) ∙ one_more (taken_paths s t (take i fs)) (taken_path s t g))

-- the members of a tree have distinct names
distinct_by : (x : Tree-F Tree) → HasDistinctNames (members_or_none (members_at x))
unfolding IsDistinct
distinct_by (Tree-F.Object d) = d.distinct
distinct_by x = tt

pub distinct_in : (t : Tree) → HasDistinctNames (members_in t)
distinct_in t = distinct_by (out-Tree t)

-- no member is taken at first
pub marks_none : {V : Type 0} (ms : List (List ℕ × V)) → replicate (length ms) true ≡ map (λ m. is_extra [] m.0) ms
marks_none [] = refl
marks_none (m ∷ ms) = ap (λ bs. true ∷ bs) (marks_none ms)

-- how far the fields were looked up
pub record HasFound (s : Settings) (fs : List FieldRule) (t directory : Tree) (i : ℕ) (hits : List Found) (marks : List Bool) : Type 0 where
  pub same : directory ≡ t
  pub fields : map hit hits ≡ map (found_field s t) (take i fs)
  pub extra : marks ≡ map (λ m. is_extra (taken_paths s t (take i fs)) m.0) (members_in t)

inside : (x y : FieldPaths) → Some x ≡ Some y → x ≡ y
inside x y h = cc

pub found_none : (s : Settings) (fs : List FieldRule) (t directory : Tree) (n : ℕ) (hits : List Found) (marks : List Bool)
    → directory ≡ t → hits ≡ [] → n ≡ length (members_in directory) → marks ≡ replicate n true → HasFound s fs t directory 0 hits marks
found_none s fs t directory n hits marks same none size all = record {
  same = same;
  fields = ap (map hit) none;
  extra = all ∙ ap (λ k. replicate k true) (size ∙ ap (λ x. length (members_in x)) same) ∙ marks_none (members_in t);
}

module _ (s : Settings) (fs : List FieldRule) (t old new : Tree) (i : ℕ) (hits more : List Found) (marks next : List Bool) (own : FieldPaths) (x : Found) (member : Option ℕ)
    (d : HasDistinctNames (members_in t)) (h : HasFound s fs t old i hits marks) (found_is : hit x ≡ found own.paths old) (member_is : member ≡ taken_member own.paths old)
    (same : new ≡ old) (pushed : more ≡ hits ++ x ∷ []) (set : next ≡ marked marks member) where
  found_this : (f : FieldRule) → slice_get fs i ≡ Some f → own ≡ field_paths s f → HasFound s fs t new (i + 1) more next
  found_this f at is =
      let l : i < length fs = slice_get_within fs i f at in
      let here : get_or fs i f ≡ f = get_or_from_slice_get fs i f f at in
      let tree : old ≡ t = h.same in
      let hit_is : hit x ≡ found_field s t (get_or fs i f) =
      found_is ∙ ap (λ u. found own.paths u) tree ∙ ap (λ p. found p.paths t) is ∙ ap (found_field s t) (sym here) in
      let taken_is : member ≡ taken_member (paths_of s (get_or fs i f)) t =
      member_is ∙ ap (λ u. taken_member own.paths u) tree ∙ ap (λ p. taken_member p.paths t) is ∙ ap (λ g. taken_member (paths_of s g) t) (sym here) in
      record {
        same = same ∙ tree;
        fields = ap (map hit) pushed ∙ map-append hit hits (x ∷ []) ∙ ap (λ xs. xs ++ hit x ∷ []) h.fields ∙ ap (λ o. map (found_field s t) (take i fs) ++ o ∷ []) hit_is
            ∙ sym (map_more (found_field s t) fs i f l);
        extra = set ∙ ap (λ bs. marked bs member) h.extra ∙ ap (marked (map (λ m. is_extra (taken_paths s t (take i fs)) m.0) (members_in t))) taken_is
            ∙ marks_more t d s fs i f l;
      }

  found_by : (o : Option FieldRule) → slice_get fs i ≡ o → Some own ≡ option_map (field_paths s) o → HasFound s fs t new (i + 1) more next
  found_by None at e = cc
  found_by (Some f) at e = found_this f at (inside own (field_paths s f) e)

  pub found_more : (paths : List FieldPaths) → paths ≡ map (field_paths s) fs → i < length paths → own ≡ get_or paths i own → HasFound s fs t new (i + 1) more next
  found_more paths all l at =
      found_by (slice_get fs i) refl
      (ap Some at ∙ sym (slice_get-get_or paths i own l) ∙ ap (λ ps. slice_get ps i) all ∙ slice_get-map (field_paths s) fs i)

same_finds : (xs ys : List (Option (ℕ × Tree))) (cs bs : List Bool) → xs ≡ ys → cs ≡ bs → (let x : Finds = record { fields = xs; extra = cs } in x) ≡ record { fields = ys; extra = bs }
same_finds xs ys cs bs p q = cc

pub found_all : (s : Settings) (fs : List FieldRule) (t directory : Tree) (i : ℕ) (hits : List Found) (marks : List Bool) (paths : List FieldPaths)
    → HasFound s fs t directory i hits marks → paths ≡ map (field_paths s) fs → length paths ≤ i
    → (let x : Finds = record { fields = map hit hits; extra = marks } in x)
    ≡ record { fields = map (found_field s t) fs; extra = map (λ m. is_extra (taken_paths s t fs) m.0) (members_in t) }
found_all s fs t directory i hits marks paths h all l =
    let size : length paths ≡ length fs = ap length all ∙ length-map fs (field_paths s) in
    let whole : take i fs ≡ fs = take_all i fs (omega (arith, size, l)) in
    same_finds (map hit hits) (map (found_field s t) fs) marks (map (λ m. is_extra (taken_paths s t fs) m.0) (members_in t))
    (h.fields ∙ ap (map (found_field s t)) whole) (h.extra ∙ ap (λ xs. map (λ m. is_extra (taken_paths s t xs) m.0) (members_in t)) whole)
