-- The function of a name stands at the place of the name.
use Rattle.std.proofs.Common.{◌≡◌, ℕ, suc, ◌+◌, ◌-◌, ◌<◌, ◌≤◌, Bool, true, false, cond, List, [], ◌∷◌, ◌++◌, length, take, get_or, refl, sym, ap, ◌∙◌, subst, arith}
use Rattle.std.specs.Prelude.{Option, None, Some, Result, Err, bytes_eq}
use Rattle.std.specs.Result.{MatchResult}
use Rattle.std.specs.List.{position_from}
use Rattle.std.specs.BTreeMap.{BTreeMap, Updates, is_at}
use Rattle.std.specs.Map.{lookup}
use Rattle.pv_tree.specs.Merging.{place_of, name_cmp, IsIndex}
use Rattle.pv_tree.proofs.Merges.{index_inserted}
use Rattle.pv_func.specs.declared.func.FuncId.{FuncId}
use Rattle.pv_func.specs.declared.registry.AddFault.{AddFault}
use Rattle.pv_func.specs.declared.registry.AddFault.TheVariants.{NameTaken, Memory}
use Rattle.pv_func.specs.Adding.{AddGives}
use Rattle.pv_func.specs.Functions.{named, numbered}

module _ {X : Type 0} where
  -- the place of the first of this name, counted from `i`
  abbrev place_from : ℕ → List (List ℕ × X) → List ℕ → Option ℕ
  place_from i fs name = position_from (λ m. bytes_eq name m.0) i fs

  -- what stands for the name stands at the place `n` of a list whose first is at the place `i`
  record StandsAt (fs : List (List ℕ × X)) (name : List ℕ) (i n : ℕ) : Type 0 where
    from : i ≤ n
    below : n < i + length fs
    is : (d : List ℕ × X) → named fs name ≡ Some (get_or fs (n - i) d).1
    has : named fs name ≡ numbered fs (n - i)

  found_by : (b : Bool) (i n : ℕ) (f : List ℕ × X) (fs : List (List ℕ × X)) (name : List ℕ) → bytes_eq name f.0 ≡ b
      → (place_from (i + 1) fs name ≡ Some n → StandsAt fs name (i + 1) n)
      → cond b (Some i) (place_from (i + 1) fs name) ≡ Some n → StandsAt (f ∷ fs) name i n
  found_by true i n f fs name e rest h =
      let at : i ≡ n = cc in
      let none : 0 ≡ n - i = omega arith in
      record {
        from = omega arith;
        below = omega arith;
        is = λ d. ap (λ b. cond b (Some f.1) (named fs name)) e ∙ ap (λ j. Some (get_or (f ∷ fs) j d).1) none;
        has = ap (λ b. cond b (Some f.1) (named fs name)) e ∙ ap (λ j. numbered (f ∷ fs) j) none;
      }
  found_by false i n f fs name e rest h =
      let r : StandsAt fs name (i + 1) n = rest h in
      let least : i + 1 ≤ n = r.from in
      let most : n < i + 1 + length fs = r.below in
      let next : suc (n - (i + 1)) ≡ n - i = omega arith in
      record {
        from = omega arith;
        below = omega arith;
        is = λ d. ap (λ b. cond b (Some f.1) (named fs name)) e ∙ r.is d ∙ ap (λ j. Some (get_or (f ∷ fs) j d).1) next;
        has = ap (λ b. cond b (Some f.1) (named fs name)) e ∙ r.has ∙ ap (λ j. numbered (f ∷ fs) j) next;
      }

  found_from : (i n : ℕ) (fs : List (List ℕ × X)) (name : List ℕ) → place_from i fs name ≡ Some n → StandsAt fs name i n
  found_from i n [] name h = cc
  found_from i n (f ∷ fs) name h = found_by (bytes_eq name f.0) i n f fs name refl (found_from (i + 1) n fs name) h

  pub place_within : (fs : List (List ℕ × X)) (name : List ℕ) (n : ℕ) → place_of fs name ≡ Some n → n < length fs
  place_within fs name n h = let r : n < 0 + length fs = (found_from 0 n fs name h).below in omega arith

  pub named_found : (fs : List (List ℕ × X)) (name : List ℕ) (n : ℕ) (d : List ℕ × X) → place_of fs name ≡ Some n
      → named fs name ≡ Some (get_or fs n d).1
  named_found fs name n d h = let whole : n - 0 ≡ n = omega arith in (found_from 0 n fs name h).is d ∙ ap (λ j. Some (get_or fs j d).1) whole

  pub named_numbered : (fs : List (List ℕ × X)) (name : List ℕ) (n : ℕ) → place_of fs name ≡ Some n → named fs name ≡ numbered fs n
  named_numbered fs name n h = let whole : n - 0 ≡ n = omega arith in (found_from 0 n fs name h).has ∙ ap (λ j. numbered fs j) whole

  missing_by : (b : Bool) (i : ℕ) (f : List ℕ × X) (fs : List (List ℕ × X)) (name : List ℕ)
      → (place_from (i + 1) fs name ≡ None → named fs name ≡ None)
      → cond b (Some i) (place_from (i + 1) fs name) ≡ None → cond b (Some f.1) (named fs name) ≡ None
  missing_by true i f fs name rest h = cc
  missing_by false i f fs name rest h = rest h

  missing_from : (i : ℕ) (fs : List (List ℕ × X)) (name : List ℕ) → place_from i fs name ≡ None → named fs name ≡ None
  missing_from i [] name h = refl
  missing_from i (f ∷ fs) name h = missing_by (bytes_eq name f.0) i f fs name (missing_from (i + 1) fs name) h

  pub named_missing : (fs : List (List ℕ × X)) (name : List ℕ) → place_of fs name ≡ None → named fs name ≡ None
  named_missing fs name h = missing_from 0 fs name h

  -- what an addition answers, by whether the name is there
  taken_by : (fs : List (List ℕ × X)) (name : List ℕ) (found : Option X) (x : X) → found ≡ Some x → named fs name ≡ found → AddGives fs name (Err (NameTaken name))
  taken_by fs name None x e h = cc
  taken_by fs name (Some y) x e h = rw h refl

  pub taken : (fs : List (List ℕ × X)) (name : List ℕ) (n : ℕ) → place_of fs name ≡ Some n → AddGives fs name (Err (NameTaken name))
  taken [] name n h = cc
  taken (f ∷ fs) name n h = taken_by (f ∷ fs) name (Some (get_or (f ∷ fs) n f).1) (get_or (f ∷ fs) n f).1 refl (named_found (f ∷ fs) name n f h)

  pub not_taken : (fs : List (List ℕ × X)) (name : List ℕ) (result : Result FuncId AddFault) → place_of fs name ≡ None
      → MatchResult result (λ id. id.number ≡ length fs) (λ e. e ≡ Memory) → AddGives fs name result
  not_taken fs name result h m = rw (named_missing fs name h) m

  -- the index of a list stays one, where neither has changed
  pub index_unchanged : (numbers after : BTreeMap (List ℕ) ℕ) (fs gs : List (List ℕ × X)) → IsIndex numbers fs → after.entries ≡ numbers.entries → gs ≡ fs
      → IsIndex after gs
  index_unchanged numbers after fs gs index e f = λ name.
      ap (λ es. lookup (is_at (name_cmp name)) es) e ∙ index name ∙ ap (λ xs. place_of xs name) (sym f)

  -- the index of a list with one more behind it
  pub index_appended : (numbers after : BTreeMap (List ℕ) ℕ) (fs gs : List (List ℕ × X)) (name key : List ℕ) (f : X) (n : ℕ) → IsIndex numbers fs
      → place_of fs name ≡ None → key ≡ name → n ≡ length fs → Updates name_cmp numbers after key (Some n) → gs ≡ fs ++ (name, f) ∷ [] → IsIndex after gs
  index_appended numbers after fs gs name key f n index none same last updates e =
      subst (IsIndex after) (sym e) (index_inserted numbers after fs name key f n index none same last updates)

-- a list that was made one longer, and cut back
pub cut_back : {X : Type 0} → (xs ys zs : List X) (x : X) (n : ℕ) → n ≡ length xs → ys ≡ xs ++ x ∷ [] → zs ≡ take n ys → zs ≡ xs
cut_back {X = X} xs ys zs x n e f g = g ∙ ap (take n) f ∙ ap (λ k. take k (xs ++ x ∷ [])) e ∙ back xs
  where
    back : (vs : List X) → take (length vs) (vs ++ x ∷ []) ≡ vs
    back [] = refl
    back (v ∷ vs) = ap (λ ws. v ∷ ws) (back vs)
