-- What is found to be a number is a numeral with this value.
use Rattle.std.proofs.Common.{◌≡◌, ℕ, zero, suc, ◌+◌, ◌<◌, ◌≤◌, Bool, true, false, cond, eqb, List, [], ◌∷◌, ◌++◌, length, take, drop, ℤ, pos, Option, None, Some, refl, sym, ap, ◌∙◌, subst, arith, inl, inr, IsTrue}
use Rattle.std.proofs.lemmas.Bool.{and_parts, eqb-true}
use Rattle.std.proofs.lemmas.List.{take-append-drop}
use Rattle.std.proofs.lemmas.List.Splits.{join_with_byte-slice_split}
use Rattle.std.specs.Prelude.{◌&&◌, ◌||◌, ◌⊎◌, not}
use Rattle.std.specs.Str.{trim}
use Rattle.std.specs.List.{filter, list_all, slice_split, onto_first, concat, join_with_byte, position_or_len, before_first, after_first}
use Rattle.pv_number.specs.Scanning.{is_digit, begins}
use Rattle.pv_number.specs.Grammar.{AllDigits, SomeDigits, IsSign}
use Rattle.pv_number.specs.ExactNumber.{natural, signed, is_point, without_sign}
use Rattle.pv_number.specs.declared.Whole.{Whole}
use Rattle.pv_numeric.specs.WholeNumbers.{whole_by}
use Rattle.pv_numeric.specs.NumericStrings.{is_underscore, is_zero, is_some_digits, is_grouped, before_point, behind_point, is_numeric, numeric_value, number_in, numeric_string}
use Rattle.pv_numeric.specs.Numerals.{AllGroups, IsZeroFraction, IsNumeral}
use Rattle.pv_numeric.proofs.Digits.{groups_on, may_stand, groups_are, apart}

-- ---- groups

all_digits : (ds : List ℕ) → list_all is_digit ds ≡ true → AllDigits ds
all_digits [] e = tt
all_digits (d ∷ ds) e = let both = and_parts (is_digit d) (list_all is_digit ds) e in (both.0, all_digits ds both.1)

some_digits : (ds : List ℕ) → is_some_digits ds ≡ true → SomeDigits ds
some_digits [] e = absurd cc
some_digits (d ∷ ds) e = let both = and_parts (is_digit d) (list_all is_digit ds) e in ((both.0, all_digits ds both.1), omega arith)

all_groups : (dss : List (List ℕ)) → list_all is_some_digits dss ≡ true → AllGroups dss
all_groups [] e = tt
all_groups (ds ∷ dss) e = let both = and_parts (is_some_digits ds) (list_all is_some_digits dss) e in (some_digits ds both.0, all_groups dss both.1)

concat_onto : (b : ℕ) (dss : List (List ℕ)) → concat (onto_first b dss) ≡ b ∷ concat dss
concat_onto b [] = refl
concat_onto b (ds ∷ dss) = refl

digits_of_groups : (ds : List ℕ) (follows : Bool) → groups_on follows ds ≡ true → concat (slice_split is_underscore ds) ≡ filter is_digit ds
digits_of_groups [] follows e = refl
digits_of_groups (b ∷ bs) follows e = by (is_digit b) (is_underscore b) refl refl e (λ f h. digits_of_groups bs f h)
  where
    by : (x y : Bool) → is_digit b ≡ x → is_underscore b ≡ y → cond (x || (y && follows)) (groups_on x bs) false ≡ true →
        ((f : Bool) → groups_on f bs ≡ true → concat (slice_split is_underscore bs) ≡ filter is_digit bs) →
        concat (cond y ([] ∷ slice_split is_underscore bs) (onto_first b (slice_split is_underscore bs))) ≡ cond x (b ∷ filter is_digit bs) (filter is_digit bs)
    by true true p q e rest = absurd (apart b p q)
    by true false p q e rest = concat_onto b (slice_split is_underscore bs) ∙ ap (λ ds. b ∷ ds) (rest true e)
    by false true p q e rest = under follows e rest
      where
        under : (f : Bool) → cond f (groups_on false bs) false ≡ true → ((g : Bool) → groups_on g bs ≡ true → concat (slice_split is_underscore bs) ≡ filter is_digit bs) → concat (slice_split is_underscore bs) ≡ filter is_digit bs
        under true e rest = rest false e
        under false e rest = absurd cc
    by false false p q e rest = absurd cc

some_part : (ds : List ℕ) → 0 < length (slice_split is_underscore ds)
some_part [] = omega arith
some_part (b ∷ bs) = by (is_underscore b) (slice_split is_underscore bs)
  where
    by : (x : Bool) (dss : List (List ℕ)) → 0 < length (cond x ([] ∷ dss) (onto_first b dss))
    by true dss = omega arith
    by false [] = omega arith
    by false (ds ∷ dss) = omega arith

-- ---- parts

sign_of : List ℕ → List ℕ
sign_of [] = []
sign_of (b ∷ bs) = cond (eqb b 45 || eqb b 43) (b ∷ []) []

sign_parts : (t : List ℕ) → t ≡ sign_of t ++ without_sign t
unfolding sign_of
sign_parts [] = refl
sign_parts (b ∷ bs) = by (eqb b 45 || eqb b 43)
  where
    by : (x : Bool) → b ∷ bs ≡ cond x (b ∷ []) [] ++ cond x bs (b ∷ bs)
    by true = refl
    by false = refl

sign_is : (t : List ℕ) → IsSign (sign_of t)
unfolding sign_of
sign_is [] = inl refl
sign_is (b ∷ bs) = by (eqb b 45) (eqb b 43) refl refl
  where
    by : (x y : Bool) → eqb b 45 ≡ x → eqb b 43 ≡ y → IsSign (cond (x || y) (b ∷ []) [])
    by true y p q = inr (inl (ap (λ k. k ∷ []) (eqb-true b 45 p)))
    by false true p q = inr (inr (ap (λ k. k ∷ []) (eqb-true b 43 q)))
    by false false p q = inl refl

sign_minus : (t : List ℕ) → begins 45 t ≡ begins 45 (sign_of t)
unfolding sign_of
sign_minus [] = refl
sign_minus (b ∷ bs) = by (eqb b 45) (eqb b 43) refl
  where
    by : (x y : Bool) → eqb b 45 ≡ x → x ≡ begins 45 (cond (x || y) (b ∷ []) [])
    by true y p = sym p
    by false true p = sym p
    by false false p = refl

rest_at_point : (u : List ℕ) → (drop (position_or_len is_point u) u ≡ []) ⊎ (drop (position_or_len is_point u) u ≡ 46 ∷ after_first is_point u)
rest_at_point [] = inl refl
rest_at_point (b ∷ bs) = by (eqb b 46) refl (rest_at_point bs)
  where
    by : (x : Bool) → eqb b 46 ≡ x → (drop (position_or_len is_point bs) bs ≡ []) ⊎ (drop (position_or_len is_point bs) bs ≡ 46 ∷ after_first is_point bs) →
        (drop (cond (not x) (1 + position_or_len is_point bs) 0) (b ∷ bs) ≡ []) ⊎ (drop (cond (not x) (1 + position_or_len is_point bs) 0) (b ∷ bs) ≡ 46 ∷ drop (cond (not x) (1 + position_or_len is_point bs) 0 + 1) (b ∷ bs))
    by true p rest = inr (ap (λ k. k ∷ bs) (eqb-true b 46 p))
    by false p rest =
        let less : 1 + position_or_len is_point bs ≡ suc (position_or_len is_point bs) = omega arith in
        let more : 1 + position_or_len is_point bs + 1 ≡ suc (position_or_len is_point bs + 1) = omega arith in
        rw (more, less) rest

fraction_is : (u : List ℕ) → list_all is_zero (after_first is_point u) ≡ true → IsZeroFraction (drop (position_or_len is_point u) u)
fraction_is u zeros = elim (rest_at_point u) [ inl none ↦ inl none | inr some ↦ inr (after_first is_point u, some, zeros) ]

numeral : (t : List ℕ) → is_numeric t ≡ true → IsNumeral t (numeric_value t)
unfolding is_grouped
numeral t e =
    let u = without_sign t in
    let ds = before_point t in
    let both = and_parts (is_grouped (before_point t)) (list_all is_zero (behind_point t)) e in
    let on : groups_on false (before_point t) ≡ true = groups_are (before_point t) ∙ both.0 in
    record {
      sign = sign_of t;
      groups = slice_split is_underscore (before_point t);
      fraction = drop (position_or_len is_point (without_sign t)) (without_sign t);
      parts = sign_parts t ∙ ap (λ r. sign_of t ++ r) (sym (take-append-drop (position_or_len is_point (without_sign t)) (without_sign t))
          ∙ ap (λ g. g ++ drop (position_or_len is_point (without_sign t)) (without_sign t)) (sym (join_with_byte-slice_split 95 (before_point t))));
      is_sign = sign_is t;
      some_group = some_part (before_point t);
      digits = all_groups (slice_split is_underscore (before_point t)) both.0;
      is_fraction = fraction_is (without_sign t) both.1;
      value = ap (λ m. signed m (natural (filter is_digit (before_point t)))) (sign_minus t)
          ∙ ap (λ g. signed (begins 45 (sign_of t)) (natural g)) (sym (digits_of_groups (before_point t) false on));
    }

pub numeral_in : (text : List ℕ) (w : Whole) → numeric_string text ≡ Some w → (n : ℤ) × IsNumeral (trim text) n × (w ≡ whole_by n)
unfolding numeric_string
numeral_in text w e = by (is_numeric (trim text)) refl e
  where
    by : (x : Bool) → is_numeric (trim text) ≡ x → cond x (Some (whole_by (numeric_value (trim text)))) None ≡ Some w → (n : ℤ) × IsNumeral (trim text) n × (w ≡ whole_by n)
    by true p q = (numeric_value (trim text), numeral (trim text) p, cc)
    by false p q = absurd cc
