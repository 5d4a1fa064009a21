-- Whether a key begins one of the paths at which fields were found.
use Rattle.std.proofs.Common.{◌≡◌, ℕ, ◌+◌, ◌<◌, ◌≤◌, Bool, true, false, not, ◌||◌, List, [], ◌∷◌, ◌++◌, map, length, get_or, drop, refl, sym, ap, ◌∙◌}
use Rattle.std.specs.Prelude.{Option}
use Rattle.std.specs.List.{list_any}
use Rattle.std.proofs.lemmas.List.{drop_more, drop_all}
use Rattle.std.proofs.lemmas.List.Folds.{list_any-append}
use Rattle.pv_tree.specs.declared.Step.{Step}
use Rattle.pv_rules.specs.declared.FieldRule.{FieldRule}
use Rattle.pv_rules.specs.declared.Settings.{Settings}
use Rattle.pv_fields.specs.declared.field_paths.FieldPaths.{FieldPaths}
use Rattle.pv_fields.specs.Finding.{begins, is_extra, path_at, paths_at}
use Rattle.pv_fields.specs.Planned.{field_paths}

-- the paths at these numbers
abbrev pub paths_in : List FieldPaths → List (Option ℕ) → List (List Step)
paths_in [] ns = []
paths_in (p ∷ ps) [] = []
paths_in (p ∷ ps) (n ∷ ns) = path_at p.paths n ++ paths_in ps ns

as_planned : (s : Settings) (fs : List FieldRule) (ns : List (Option ℕ)) → paths_in (map (field_paths s) fs) ns ≡ paths_at s fs ns
as_planned s [] ns = refl
as_planned s (f ∷ fs) [] = refl
as_planned s (f ∷ fs) (n ∷ ns) = ap (λ ps. path_at (field_paths s f).paths n ++ ps) (as_planned s fs ns)

-- how far no path was found that begins with the key
pub record HasTold (key : List ℕ) (ps : List FieldPaths) (ns : List (Option ℕ)) (i : ℕ) : Type 0 where
  pub same : list_any (begins key) (paths_in (drop i ps) (drop i ns)) ≡ list_any (begins key) (paths_in ps ns)

module _ (key : List ℕ) (ps : List FieldPaths) (ns : List (Option ℕ)) where
  abbrev begun : List (List Step) → Bool
  begun paths = list_any (begins key) paths

  abbrev whole : Bool
  whole = begun (paths_in ps ns)

  pub told_none : HasTold key ps ns 0
  told_none = record { same = refl }

  module _ (s : Settings) (fs : List FieldRule) (planned : ps ≡ map (field_paths s) fs) where
    all_is : whole ≡ begun (paths_at s fs ns)
    all_is = ap (λ xs. begun (paths_in xs ns)) planned ∙ ap begun (as_planned s fs ns)

    no_numbers : (xs : List FieldPaths) → begun (paths_in xs []) ≡ false
    no_numbers [] = refl
    no_numbers (x ∷ xs) = refl

    -- fewer numbers than fields
    pub told_short : (i : ℕ) → HasTold key ps ns i → length ns ≤ i → true ≡ is_extra (paths_at s fs ns) key
    told_short i h l =
        ap not (sym (no_numbers (drop i ps)) ∙ ap (λ xs. begun (paths_in (drop i ps) xs)) (sym (drop_all i ns l)) ∙ h.same ∙ all_is)

    -- after the last field
    pub told_all : (i : ℕ) → HasTold key ps ns i → length ps ≤ i → true ≡ is_extra (paths_at s fs ns) key
    told_all i h l = ap not (ap (λ xs. begun (paths_in xs (drop i ns))) (sym (drop_all i ps l)) ∙ h.same ∙ all_is)

    module _ (i : ℕ) (own : FieldPaths) (n d : Option ℕ) (h : HasTold key ps ns i) (l : i < length ps) (m : i < length ns) (at : own ≡ get_or ps i own) (number : n ≡ get_or ns i d) where
      opened : whole ≡ (begun (path_at own.paths n) || begun (paths_in (drop (i + 1) ps) (drop (i + 1) ns)))
      opened =
          sym h.same ∙ ap (λ xs. begun (paths_in xs (drop i ns))) (drop_more ps i own l) ∙ ap (λ xs. begun (paths_in (get_or ps i own ∷ drop (i + 1) ps) xs)) (drop_more ns i d m)
          ∙ ap (λ p. begun (path_at p.paths (get_or ns i d) ++ paths_in (drop (i + 1) ps) (drop (i + 1) ns))) (sym at)
          ∙ ap (λ k. begun (path_at own.paths k ++ paths_in (drop (i + 1) ps) (drop (i + 1) ns))) (sym number)
          ∙ list_any-append (begins key) (path_at own.paths n) (paths_in (drop (i + 1) ps) (drop (i + 1) ns))

      pub told_begun : (b : Bool) → b ≡ begun (path_at own.paths n) → b ≡ true → false ≡ is_extra (paths_at s fs ns) key
      told_begun b e is = ap not (ap (λ c. c || begun (paths_in (drop (i + 1) ps) (drop (i + 1) ns))) (sym is ∙ e) ∙ sym opened ∙ all_is)

      pub told_more : (b : Bool) → b ≡ begun (path_at own.paths n) → b ≡ false → HasTold key ps ns (i + 1)
      told_more b e is = record { same = ap (λ c. c || begun (paths_in (drop (i + 1) ps) (drop (i + 1) ns))) (sym is ∙ e) ∙ sym opened }
