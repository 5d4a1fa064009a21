-- Digits with underscores between them, from the front on.
use Rattle.std.proofs.Common.{◌≡◌, ℕ, zero, suc, ◌+◌, ◌-◌, ◌*◌, ◌^◌, ◌<◌, ◌≤◌, Bool, true, false, cond, eqb, List, [], ◌∷◌, ◌++◌, length, drop, get_or, refl, sym, ap, ◌∙◌, subst, arith, inl, inr, add-one}
use Rattle.std.proofs.Math.Seq.{drop-cons}
use Rattle.std.proofs.Math.Nat.{min-eq_left, min-eq_right}
use Rattle.std.proofs.lemmas.Bool.{leb-true, and_parts}
use Rattle.std.proofs.lemmas.List.{drop_all}
use Rattle.std.proofs.lemmas.Bool.Decides.{eqb_tells}
use Rattle.std.specs.Prelude.{min, ◌&&◌, ◌||◌, nat_le}
use Rattle.std.specs.List.{filter, list_all, slice_split, onto_first}
use Rattle.pv_number.specs.Scanning.{is_digit}
use Rattle.pv_number.specs.ExactNumber.{digit, natural, natural_after}
use Rattle.pv_numeric.specs.NumericStrings.{is_underscore, is_some_digits, is_grouped}

-- ---- groups

abbrev pub may_stand : Bool → ℕ → Bool
may_stand follows b = is_digit b || (is_underscore b && follows)

-- whether these bytes go on behind a digit, or else begin a group
abbrev pub groups_on : Bool → List ℕ → Bool
groups_on follows [] = follows
groups_on follows (b ∷ bs) = cond (may_stand follows b) (groups_on (is_digit b) bs) false

abbrev all : List (List ℕ) → Bool
all parts = list_all is_some_digits parts

abbrev split : List ℕ → List (List ℕ)
split ds = slice_split is_underscore ds

pub apart : (b : ℕ) → is_digit b ≡ true → is_underscore b ≡ true → ⊥
apart b e f =
    let low = leb-true b 57 (and_parts (nat_le 48 b) (nat_le b 57) e).1 in
    elim (eqb_tells b 95) [ inl p ↦ (let is = p.1 in omega arith) | inr p ↦ absurd cc ]

onto_digit : (d b : ℕ) (parts : List (List ℕ)) → is_digit d ≡ true → all (onto_first b parts) ≡ all (onto_first d (onto_first b parts))
onto_digit d b [] h = rw h refl
onto_digit d b (part ∷ parts) h = rw h refl

one_digit : (d : ℕ) (parts : List (List ℕ)) → is_digit d ≡ true → all parts ≡ all ((d ∷ []) ∷ parts)
one_digit d parts h = rw h refl

no_digit : (b : ℕ) (parts : List (List ℕ)) → is_digit b ≡ false → false ≡ all (onto_first b parts)
no_digit b [] e = rw e refl
no_digit b (part ∷ parts) e = rw e refl

no_second_digit : (d b : ℕ) (parts : List (List ℕ)) → is_digit d ≡ true → is_digit b ≡ false → false ≡ all (onto_first d (onto_first b parts))
no_second_digit d b [] h e = rw (h, e) refl
no_second_digit d b (part ∷ parts) h e = rw (h, e) refl

-- behind a digit, and at the front
abbrev Behind : List ℕ → Type 0
Behind ds = (d : ℕ) → is_digit d ≡ true → groups_on true ds ≡ all (onto_first d (split ds))

abbrev AtFront : List ℕ → Type 0
AtFront ds = groups_on false ds ≡ all (split ds)

more : (b : ℕ) (bs : List ℕ) → Behind bs → AtFront bs → (x y : Bool) → is_digit b ≡ x → is_underscore b ≡ y →
    ((d : ℕ) → is_digit d ≡ true → cond (x || (y && true)) (groups_on x bs) false ≡ all (onto_first d (cond y ([] ∷ split bs) (onto_first b (split bs)))))
    × (cond (x || (y && false)) (groups_on x bs) false ≡ all (cond y ([] ∷ split bs) (onto_first b (split bs))))
more b bs behind front true true e f = absurd (apart b e f)
more b bs behind front true false e f = (λ d h. behind b e ∙ onto_digit d b (split bs) h, behind b e)
more b bs behind front false true e f = (λ d h. front ∙ one_digit d (split bs) h, refl)
more b bs behind front false false e f = (λ d h. no_second_digit d b (split bs) h e, no_digit b (split bs) e)

grouped : (ds : List ℕ) → Behind ds × AtFront ds
grouped [] = (λ d h. rw h refl, refl)
grouped (b ∷ bs) = let rest = grouped bs in more b bs rest.0 rest.1 (is_digit b) (is_underscore b) refl refl

pub groups_are : (ds : List ℕ) → groups_on false ds ≡ is_grouped ds
unfolding is_grouped
groups_are ds = (grouped ds).1

pub groups_done : (ds : List ℕ) (i : ℕ) (follows : Bool) → length ds ≤ i → groups_on follows (drop i ds) ≡ groups_on false ds → follows ≡ is_grouped ds
groups_done ds i follows past e = ap (groups_on follows) (sym (drop_all i ds past)) ∙ e ∙ groups_are ds

pub groups_stop : (ds : List ℕ) (i : ℕ) (follows stands : Bool) → i < length ds → stands ≡ may_stand follows (get_or ds i 0) → stands ≡ false → groups_on follows (drop i ds) ≡ groups_on false ds → false ≡ is_grouped ds
groups_stop ds i follows stands h is e on = let none : may_stand follows (get_or ds i 0) ≡ false = sym is ∙ e in sym (rw (drop-cons ds i 0, none) refl) ∙ on ∙ groups_are ds

-- ---- the number that digits form, as far as it is counted

abbrev last : ℕ
last = 2 ^ 128 - 1

unfoldable pub value_after : ℕ → List ℕ → ℕ
value_after v ds = min (natural_after v (filter is_digit ds)) last

capped_step : (x d : ℕ) → min (min x last * 10 + d) last ≡ min (x * 10 + d) last
capped_step x d = grind (arith, min-eq_left, min-eq_right)

capped_after : (ds : List ℕ) (x : ℕ) → min (natural_after (min x last) ds) last ≡ min (natural_after x ds) last
capped_after [] x = grind (arith, min-eq_left, min-eq_right)
capped_after (d ∷ ds) x =
    sym (capped_after ds (min x last * 10 + digit d)) ∙ ap (λ v. min (natural_after v ds) last) (capped_step x (digit d)) ∙ capped_after ds (x * 10 + digit d)

value_next : (v w b : ℕ) (rest : List ℕ) → w ≡ cond (is_digit b) (min (v * 10 + digit b) last) v → value_after w rest ≡ value_after v (b ∷ rest)
unfolding value_after
value_next v w b rest is = by (is_digit b) is
  where
    by : (x : Bool) → w ≡ cond x (min (v * 10 + digit b) last) v → min (natural_after w (filter is_digit rest)) last ≡ min (natural_after v (cond x (b ∷ filter is_digit rest) (filter is_digit rest))) last
    by true e = ap (λ n. min (natural_after n (filter is_digit rest)) last) e ∙ capped_after (filter is_digit rest) (v * 10 + digit b)
    by false e = ap (λ n. min (natural_after n (filter is_digit rest)) last) e

pub value_step : (ds : List ℕ) (i v w : ℕ) → i < length ds → w ≡ cond (is_digit (get_or ds i 0)) (min (v * 10 + digit (get_or ds i 0)) last) v → value_after w (drop (i + 1) ds) ≡ value_after v (drop i ds)
value_step ds i v w h is = rw (add-one i, drop-cons ds i 0) (value_next v w (get_or ds i 0) (drop (suc i) ds) is)

pub value_done : (ds : List ℕ) (i v : ℕ) → length ds ≤ i → v ≤ last → value_after v (drop i ds) ≡ value_after 0 ds → v ≡ min (natural (filter is_digit ds)) last
unfolding value_after
value_done ds i v past small e = sym (min-eq_left small) ∙ ap (value_after v) (sym (drop_all i ds past)) ∙ e
