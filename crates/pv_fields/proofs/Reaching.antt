-- The ends of paths, found from the place of the name that they begin with.
use Rattle.std.proofs.Common.{◌≡◌, ℕ, ◌+◌, ◌<◌, List, ◌∷◌, length, drop, get_or, refl, sym, ap, ◌∙◌}
use Rattle.std.proofs.lemmas.Option.{slice_get-get_or}
use Rattle.std.proofs.lemmas.List.{drop_more}
use Rattle.std.specs.Prelude.{Option, None, Some}
use Rattle.std.specs.Option.{option_and_then, option_map}
use Rattle.pv_tree.specs.declared.Step.{Step}
use Rattle.pv_tree.specs.declared.Step.TheVariants.{Name}
use Rattle.pv_tree.specs.declared.Tree.{Tree, out-Tree}
use Rattle.pv_tree.specs.Merged.{value_at}
use Rattle.pv_tree.specs.Merging.{place_of}
use Rattle.pv_tree.specs.Parts.{members_at}
use Rattle.pv_paths.specs.Following.{part_at, follow, found, found_by, found_from}
use Rattle.pv_fields.specs.Finding.{members_or_none, members_in}
use Rattle.pv_fields.specs.Planned.{begin_place, reached, taken_by, taken_member}
use Rattle.pv_fields.proofs.Placing.{value_there, value_lacking}

part_by : (o : Option (List (List ℕ × Tree))) (name : List ℕ) → option_and_then (λ ms. value_at ms name) o ≡ value_at (members_or_none o) name
part_by None name = refl
part_by (Some ms) name = refl

part_named : (t : Tree) (name : List ℕ) → part_at (Name name) t ≡ value_at (members_in t) name
part_named t name = part_by (members_at (out-Tree t)) name

module _ (t : Tree) (name : List ℕ) (o : Option ℕ) (place : o ≡ place_of (members_in t) name) where
  -- of a name that has no place
  pub value_none : o ≡ None → None ≡ part_at (Name name) t
  value_none is = sym (part_named t name ∙ value_lacking (members_in t) name (sym place ∙ is))

  -- of a name that has one
  pub value_some : (n : ℕ) (ms : List (List ℕ × Tree)) (d : List ℕ × Tree) → o ≡ Some n → ms ≡ members_in t → Some (get_or ms n d).1 ≡ part_at (Name name) t
  value_some n ms d is same =
      ap (λ xs. Some (get_or xs n d).1) same ∙ sym (part_named t name ∙ value_there (members_in t) name n d (sym place ∙ is))

module _ (t : Tree) (name : List ℕ) (rest : List Step) where
  abbrev pub end_with : Option ℕ → Option Tree → Option (Option ℕ × Tree)
  end_with place o = option_map (λ end. (place, end)) o

  pub reached_none : None ≡ part_at (Name name) t → None ≡ reached (Name name ∷ rest) t
  reached_none value = ap (λ x. end_with (place_of (members_in t) name) (option_and_then (follow rest) x)) value

  pub reached_some : (n : ℕ) (x : Tree) → Some n ≡ place_of (members_in t) name → Some x ≡ part_at (Name name) t
      → end_with (Some n) (follow rest x) ≡ reached (Name name ∷ rest) t
  reached_some n x place value =
      ap (λ o. end_with o (follow rest x)) place ∙ ap (λ o. end_with (place_of (members_in t) name) (option_and_then (follow rest) o)) value

-- what is reached
abbrev End : Type 0
End = Option ℕ × Tree

inside : (e f : End) → Some e ≡ Some f → e ≡ f
inside e f h = cc

end_tree : (o : Option Tree) (p m : Option ℕ) (x : Tree) → (let e : Option End = Some (m, x) in e) ≡ option_map (λ end. (p, end)) o → o ≡ Some x
end_tree None p m x e = cc
end_tree (Some y) p m x e = ap (λ q. Some q.1) (sym (inside (m, x) (p, y) e))

end_member : (o : Option Tree) (p m : Option ℕ) (x : Tree) → (let e : Option End = Some (m, x) in e) ≡ option_map (λ end. (p, end)) o → m ≡ p
end_member None p m x e = cc
end_member (Some y) p m x e = ap (λ q. q.0) (inside (m, x) (p, y) e)

end_none : (o : Option Tree) (p : Option ℕ) → (let e : Option End = None in e) ≡ option_map (λ end. (p, end)) o → o ≡ None
end_none None p e = refl
end_none (Some y) p e = cc

-- how far the paths before number `i` have led to nothing
abbrev HasCome : List (List Step) → Tree → ℕ → Type 0
HasCome ps t i = found_from i (drop i ps) t ≡ found ps t

module _ (ps : List (List Step)) (t : Tree) (i : ℕ) (d : List Step) (l : i < length ps) (so_far : HasCome ps t i) where
  found_at : (o : Option Tree) → follow (get_or ps i d) t ≡ o → found ps t ≡ found_by i o (found_from (i + 1) (drop (i + 1) ps) t)
  found_at o e = sym so_far ∙ ap (λ qs. found_from i qs t) (drop_more ps i d l) ∙ ap (λ x. found_by i x (found_from (i + 1) (drop (i + 1) ps) t)) e

  abbrev begin_of : Option ℕ
  begin_of = begin_place (members_in t) (get_or ps i d)

  pub found_is : (m : Option ℕ) (x : Tree) → (let e : Option (Option ℕ × Tree) = Some (m, x) in e) ≡ reached (get_or ps i d) t
      → (let f : Option (ℕ × Tree) = Some (i, x) in f) ≡ found ps t
  found_is m x e = sym (found_at (Some x) (end_tree (follow (get_or ps i d) t) begin_of m x e))

  pub found_next : None ≡ reached (get_or ps i d) t → HasCome ps t (i + 1)
  found_next e = sym (found_at None (end_none (follow (get_or ps i d) t) begin_of e))

  pub taken_is : (m : Option ℕ) (x : Tree) → (let e : Option (Option ℕ × Tree) = Some (m, x) in e) ≡ reached (get_or ps i d) t → m ≡ taken_member ps t
  taken_is m x e =
      end_member (follow (get_or ps i d) t) begin_of m x e
      ∙ sym (ap (taken_by ps t) (sym (found_is m x e)) ∙ ap (option_and_then (begin_place (members_in t))) (slice_get-get_or ps i d l))

pub taken_none : (ps : List (List Step)) (t : Tree) → None ≡ found ps t → None ≡ taken_member ps t
taken_none ps t e = ap (taken_by ps t) e
