-- What a place says of the entries and items that are kept.
use Rattle.std.proofs.Common.{◌≡◌, ℕ, suc, ◌+◌, ◌<◌, ◌≤◌, zero, Bool, true, false, cond, List, [], ◌∷◌, ◌++◌, length, map, get_or, take, refl, sym, ap, ◌∙◌, arith}
use Rattle.std.specs.Prelude.{Option, None, Some, slice_set}
use Rattle.std.specs.List.{list_any, position_from}
use Rattle.std.proofs.lemmas.List.{take_all}
use Rattle.pv_tree.specs.declared.Value.{Value}
use Rattle.pv_equality.specs.Equality.{same}
use Rattle.pv_equality.specs.Steps.{put_item, put_entry}
use Rattle.pv_equality.proofs.Anys.{neither_left, neither_right}
use Rattle.pv_distinct.specs.Sightings.{place_at, place_of}
use Rattle.pv_distinct.specs.declared.seen.Place.TheVariants as place
use Rattle.pv_distinct.proofs.Sightings.{some_any, none_any}

old_told : (o : Option ℕ) (i : ℕ) → place_at o ≡ place.Old i → o ≡ Some i
old_told None i h = cc
old_told (Some j) i h = cc

new_told : (o : Option ℕ) → place_at o ≡ place.New → o ≡ None
new_told None h = refl
new_told (Some j) h = cc

pub item_new : (kept : List Value) (v : Value) → place_of kept v ≡ place.New → put_item kept v ≡ kept ++ v ∷ []
item_new kept v h = λ i. cond (none_any (λ k. same k v) 0 kept (new_told (position_from (λ k. same k v) 0 kept) h) i) kept (kept ++ v ∷ [])

pub item_old : (kept : List Value) (v : Value) (i : ℕ) → place_of kept v ≡ place.Old i → put_item kept v ≡ kept
item_old kept v i h = λ j. cond (some_any (λ k. same k v) 0 i kept (old_told (position_from (λ k. same k v) 0 kept) i h) j) kept (kept ++ v ∷ [])

abbrev pub keys : List (Value × Value) → List Value
keys = map (λ e. e.0)

module _ (k v : Value) where
  new_at : (b : Bool) (n : ℕ) (e : Value × Value) (es : List (Value × Value)) → (position_from (λ w. same w k) (n + 1) (keys es) ≡ None → put_entry es k v ≡ es ++ (k, v) ∷ [])
      → cond b (Some n) (position_from (λ w. same w k) (n + 1) (keys es)) ≡ None → cond b ((e.0, v) ∷ es) (e ∷ put_entry es k v) ≡ e ∷ (es ++ (k, v) ∷ [])
  new_at true n e es f h = cc
  new_at false n e es f h = ap (λ ds. e ∷ ds) (f h)

  news : (n : ℕ) (es : List (Value × Value)) → position_from (λ w. same w k) n (keys es) ≡ None → put_entry es k v ≡ es ++ (k, v) ∷ []
  news n [] h = refl
  news n (e ∷ es) h = new_at (same e.0 k) n e es (news (n + 1) es) h

  pub entry_new : (es : List (Value × Value)) → place_of (keys es) k ≡ place.New → put_entry es k v ≡ es ++ (k, v) ∷ []
  entry_new es h = news 0 es (new_told (position_from (λ w. same w k) 0 (keys es)) h)

  -- the place counts from n
  abbrev Found : ℕ → ℕ → List (Value × Value) → Type 0
  Found n i es = (m : ℕ) × (i ≡ n + m) × (m < length es) × ((d : Value × Value) → put_entry es k v ≡ slice_set es m ((get_or es m d).0, v))

  old_at : (b : Bool) (n i : ℕ) (e : Value × Value) (es : List (Value × Value)) → same e.0 k ≡ b → (position_from (λ w. same w k) (n + 1) (keys es) ≡ Some i → Found (n + 1) i es)
      → cond b (Some n) (position_from (λ w. same w k) (n + 1) (keys es)) ≡ Some i → Found n i (e ∷ es)
  old_at true n i e es q f h =
      let p : n ≡ i = cc in
      (0, omega arith, omega arith, λ d. λ j. cond (q j) ((e.0, v) ∷ es) (e ∷ put_entry es k v))
  old_at false n i e es q f h =
      let r = f h in
      (suc r.0, omega (arith, r.1), omega (arith, r.2), λ d. (λ j. cond (q j) ((e.0, v) ∷ es) (e ∷ put_entry es k v)) ∙ ap (λ ds. e ∷ ds) (r.3 d))

  olds : (n i : ℕ) (es : List (Value × Value)) → position_from (λ w. same w k) n (keys es) ≡ Some i → Found n i es
  olds n i [] h = cc
  olds n i (e ∷ es) h = old_at (same e.0 k) n i e es refl (olds (n + 1) i es) h

  pub entry_old : (es : List (Value × Value)) (i : ℕ) (d : Value × Value) → place_of (keys es) k ≡ place.Old i → put_entry es k v ≡ slice_set es i ((get_or es i d).0, v)
  entry_old es i d h =
      let r = olds 0 i es (old_told (position_from (λ w. same w k) 0 (keys es)) i h) in
      let p : r.0 ≡ i = omega (arith, r.1) in
      r.3 d ∙ (λ j. slice_set es (p j) ((get_or es (p j) d).0, v))

  pub entry_within : (es : List (Value × Value)) (i : ℕ) → place_of (keys es) k ≡ place.Old i → i < length es
  entry_within es i h =
      let r = olds 0 i es (old_told (position_from (λ w. same w k) 0 (keys es)) i h) in
      omega (arith, r.1, r.2)

-- a place that is looked for one by one
module _ (k : Value) where
  abbrev pub has_key : Value × Value → Bool
  has_key e = same e.0 k

  missing : (n : ℕ) (es : List (Value × Value)) → list_any has_key es ≡ false → position_from (λ w. same w k) n (keys es) ≡ None
  missing n [] h = refl
  missing n (e ∷ es) h =
      (λ i. cond (neither_left (same e.0 k) (list_any has_key es) h i) (Some n) (position_from (λ w. same w k) (n + 1) (keys es)))
      ∙ missing (n + 1) es (neither_right (same e.0 k) (list_any has_key es) h)

  reached : (n i : ℕ) (es : List (Value × Value)) (d : Value × Value) → i < length es → list_any has_key (take i es) ≡ false → has_key (get_or es i d) ≡ true
      → position_from (λ w. same w k) n (keys es) ≡ Some (n + i)
  reached n i [] d l h g = absurd (omega (arith, l))
  reached n zero (e ∷ es) d l h g = (λ j. cond (g j) (Some n) (position_from (λ w. same w k) (n + 1) (keys es))) ∙ ap Some (omega arith)
  reached n (suc i) (e ∷ es) d l h g =
      (λ j. cond (neither_left (same e.0 k) (list_any has_key (take i es)) h j) (Some n) (position_from (λ w. same w k) (n + 1) (keys es)))
      ∙ reached (n + 1) i es d (omega (arith, l)) (neither_right (same e.0 k) (list_any has_key (take i es)) h) g ∙ ap Some (omega arith)

  pub place_reached : (es : List (Value × Value)) (i : ℕ) (d : Value × Value) → i < length es → list_any has_key (take i es) ≡ false → has_key (get_or es i d) ≡ true
      → place.Old i ≡ place_of (keys es) k
  place_reached es i d l h g = let e : i ≡ 0 + i = omega arith in ap place.Old e ∙ sym (ap place_at (reached 0 i es d l h g))

  pub place_missing : (es : List (Value × Value)) (i : ℕ) → length es ≤ i → list_any has_key (take i es) ≡ false → place.New ≡ place_of (keys es) k
  place_missing es i l h = sym (ap place_at (missing 0 es (sym (ap (list_any has_key) (take_all i es (omega (arith, l)))) ∙ h)))
