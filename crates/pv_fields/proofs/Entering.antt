-- Parts of a tree in which paths go on.
use Rattle.std.proofs.Common.{◌≡◌, ◌⊎◌, inl, inr, ◌≤◌, ℕ, zero, suc, ◌+◌, ◌<◌, List, [], ◌∷◌, ◌++◌, length, drop, get_or, arith, refl, sym, ap, subst, ◌∙◌}
use Rattle.std.proofs.lemmas.List.{drop_more, drop_all}
use Rattle.std.proofs.lemmas.Option.{slice_get-get_or}
use Rattle.std.specs.Prelude.{Option, None, Some, slice_get}
use Rattle.std.specs.Option.{option_and_then, option_map}
use Rattle.pv_tree.specs.declared.Step.{Step}
use Rattle.pv_tree.specs.declared.Tree.{Tree, out-Tree}
use Rattle.pv_tree.specs.declared.tree.Tree.TheOpen.{Tree-F}
use Rattle.pv_tree.specs.Parts.{members_at}
use Rattle.pv_paths.specs.Following.{part_at, follow}
use Rattle.pv_fields.specs.declared.directories.Inner.{Inner}
use Rattle.pv_fields.specs.Entering.{part_at_place, part_in, numbered, part_of, ArePlaced}
use Rattle.pv_fields.specs.Finding.{members_or_none, members_in}

-- the value of a member is the part at its place
member_by : (x : Tree-F Tree) (n : ℕ) (d : List ℕ × Tree) → n < length (members_or_none (members_at x)) → part_at_place x n ≡ Some (get_or (members_or_none (members_at x)) n d).1
member_by (Tree-F.Object ms) n d l = ap (option_map (λ m. m.1)) (slice_get-get_or ms.members n d l)
member_by x n d l = absurd (omega arith)

pub member_in : (t : Tree) (ms : List (List ℕ × Tree)) (n : ℕ) (d : List ℕ × Tree) → ms ≡ members_in t → n < length ms → part_in t n ≡ Some (get_or ms n d).1
member_in t ms n d same l = member_by (out-Tree t) n d (subst (λ xs. n < length xs) same l) ∙ ap (λ xs. Some (get_or xs n d).1) (sym same)

-- what stands in a list still stands there when one more comes behind
still : {X : Type 0} (xs ys : List X) (n : ℕ) (x : X) → slice_get xs n ≡ Some x → slice_get (xs ++ ys) n ≡ Some x
still [] ys n x h = cc
still (y ∷ xs) ys zero x h = h
still (y ∷ xs) ys (suc n) x h = still xs ys n x h

pub last : {X : Type 0} (xs : List X) (x : X) → slice_get (xs ++ x ∷ []) (length xs) ≡ Some x
last [] x = refl
last (y ∷ xs) x = last xs x

some_inside : {X : Type 0} (x y : X) → Some x ≡ Some y → x ≡ y
some_inside x y h = cc

-- a tree with one part more
module _ (t : Tree) (es : List Inner) (e : Inner) where
  abbrev more : Tree × List Inner
  more = (t, es ++ e ∷ [])

  numbered_still : (from : Option ℕ) (x : Tree) → numbered (t, es) from ≡ Some x → numbered more from ≡ Some x
  numbered_still None x h = h
  numbered_still (Some n) x h = by (slice_get es n) refl h
    where
      by : (o : Option Inner) → slice_get es n ≡ o → option_map (λ f. f.directory) o ≡ Some x → numbered more (Some n) ≡ Some x
      by None at h = cc
      by (Some f) at h = ap (option_map (λ f. f.directory)) (still es (e ∷ []) n f at) ∙ h

  part_still : (from : Option ℕ) (place : ℕ) (x : Tree) → part_of (t, es) from place ≡ Some x → part_of more from place ≡ Some x
  part_still from place x h = by (numbered (t, es) from) refl h
    where
      by : (o : Option Tree) → numbered (t, es) from ≡ o → option_and_then (λ u. part_in u place) o ≡ Some x → part_of more from place ≡ Some x
      by None at h = cc
      by (Some u) at h = ap (option_and_then (λ u. part_in u place)) (numbered_still from u at) ∙ h

  -- a part is one of the earlier ones, or the last
  old_or_last : (xs : List Inner) (n : ℕ) (f : Inner) → slice_get (xs ++ e ∷ []) n ≡ Some f → (slice_get xs n ≡ Some f) ⊎ (e ≡ f)
  old_or_last [] zero f h = inr (some_inside e f h)
  old_or_last [] (suc n) f h = cc
  old_or_last (x ∷ xs) zero f h = inl h
  old_or_last (x ∷ xs) (suc n) f h = old_or_last xs n f h

  pub placed_more : ArePlaced (t, es) → part_of (t, es) e.from e.place ≡ Some e.directory → ArePlaced more
  placed_more all this n f at = by (old_or_last es n f at)
    where
      by : (slice_get es n ≡ Some f) ⊎ (e ≡ f) → part_of more f.from f.place ≡ Some f.directory
      by (inl old) = part_still f.from f.place f.directory (all n f old)
      by (inr same) = subst (λ g. part_of more g.from g.place ≡ Some g.directory) same (part_still e.from e.place e.directory this)

pub placed_pushed : (t x : Tree) (d : Tree × List Inner) (es fs : List Inner) (e : Inner) → (t, es) ≡ d → fs ≡ es ++ e ∷ [] → e.directory ≡ x
    → part_of d e.from e.place ≡ Some x → ArePlaced (t, es) → ArePlaced (t, fs)
placed_pushed t x d es fs e view pushed is this all =
    subst (λ xs. ArePlaced (t, xs)) (sym pushed) (placed_more t es e all (ap (λ b. part_of b e.from e.place) view ∙ this ∙ ap Some (sym is)))

pub number_last : (n : ℕ) (x : Tree) (es fs : List Inner) (e : Inner) → n ≡ length es → fs ≡ es ++ e ∷ [] → e.directory ≡ x
    → option_map (λ f. f.directory) (slice_get fs n) ≡ Some x
number_last n x es fs e count pushed is =
    ap (λ k. option_map (λ f. f.directory) (slice_get fs k)) count ∙ ap (λ xs. option_map (λ f. f.directory) (slice_get xs (length es))) pushed
    ∙ ap (option_map (λ f. f.directory)) (last es e) ∙ ap Some is

-- how far a path was followed
pub record HasReached (t : Tree) (d : Tree × List Inner) (from : Option ℕ) (place : ℕ) (here : Tree) (rest : List Step) (i : ℕ) (start : Tree) : Type 0 where
  pub whole : d.0 ≡ t
  pub stands : part_of d from place ≡ Some here
  pub ends : follow (drop i rest) here ≡ follow rest start

module _ (t : Tree) (d e : Tree × List Inner) (from : Option ℕ) (place : ℕ) (here : Tree) (rest : List Step) (i : ℕ) (start : Tree) (h : HasReached t d from place here rest i start) where
  pub at_end : length rest ≤ i → Some here ≡ follow rest start
  at_end l = ap (λ ss. follow ss here) (sym (drop_all i rest l)) ∙ h.ends

  module _ (s : Step) (n : ℕ) (l : i < length rest) (at : s ≡ get_or rest i s) (entered : numbered e (Some n) ≡ Some here) (same : e.0 ≡ d.0) where
    ahead : (o : Option Tree) → o ≡ option_and_then (part_at s) (numbered e (Some n)) → option_and_then (follow (drop (i + 1) rest)) o ≡ follow rest start
    ahead o value =
        ap (option_and_then (follow (drop (i + 1) rest))) (value ∙ ap (option_and_then (part_at s)) entered)
        ∙ ap (λ x. follow (x ∷ drop (i + 1) rest) here) at ∙ sym (ap (λ ss. follow ss here) (drop_more rest i s l)) ∙ h.ends

    pub ends_here : None ≡ option_and_then (part_at s) (numbered e (Some n)) → None ≡ follow rest start
    ends_here value = ahead None value

    pub goes_on : (f : Tree × List Inner) (p : ℕ) (x : Tree) → Some x ≡ option_and_then (part_at s) (numbered e (Some n)) → part_of e (Some n) p ≡ Some x → f ≡ e
        → HasReached t f (Some n) p x rest (i + 1) start
    goes_on f p x value stands is = record {
      whole = ap (λ g. g.0) is ∙ same ∙ h.whole;
      stands = ap (λ g. part_of g (Some n) p) is ∙ stands;
      ends = ahead (Some x) value;
    }
