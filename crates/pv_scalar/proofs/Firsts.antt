-- First places in a list that grows, and what is found there.
use Rattle.std.proofs.Common.{◌≡◌, ℕ, suc, ◌+◌, ◌-◌, ◌<◌, ◌≤◌, Bool, true, false, cond, List, [], ◌∷◌, ◌++◌, length, map, take, get_or, Option, None, Some, refl, sym, ap, ◌∙◌, arith, slice_get}
use Rattle.std.proofs.lemmas.List.{take_more, length-take-le}
use Rattle.std.specs.Prelude.{is_some, option_and_then, bytes_eq, ◌||◌}
use Rattle.std.specs.Option.{option_or}
use Rattle.std.specs.List.{position_from, list_any}
use Rattle.pv_rules.specs.declared.Literal.{Literal}
use Rattle.pv_rules.specs.declared.Literal.TheVariants as literal
use Rattle.pv_rules.specs.declared.EnumMember.{EnumMember}
use Rattle.pv_scalar.specs.declared.places.Places.{Places}
use Rattle.pv_scalar.specs.Literals.{literal_same, member_with, is_among, enum_value}
use Rattle.pv_scalar.specs.Places.{first_place, place_in, KeepsPlaces, NotesPlace}

or_none : (o : Option ℕ) → o ≡ option_or o None
or_none None = refl
or_none (Some x) = refl

position_more : {X : Type 0} (p : X → Bool) (k : ℕ) (xs : List X) (x : X) → position_from p k (xs ++ x ∷ []) ≡ option_or (position_from p k xs) (cond (p x) (Some (k + length xs)) None)
position_more p k [] x = let same : k ≡ k + 0 = omega arith in ap (λ n. cond (p x) (Some n) None) same
position_more {X} p k (y ∷ xs) x =
    let same : k + 1 + length xs ≡ k + suc (length xs) = omega arith in
    by (p y) (position_more p (k + 1) xs x ∙ ap (λ n. option_or (position_from p (k + 1) xs) (cond (p x) (Some n) None)) same)
  where
    by : (b : Bool) → position_from p (k + 1) (xs ++ x ∷ []) ≡ option_or (position_from p (k + 1) xs) (cond (p x) (Some (k + suc (length xs))) None) →
        cond b (Some k) (position_from p (k + 1) (xs ++ x ∷ [])) ≡ option_or (cond b (Some k) (position_from p (k + 1) xs)) (cond (p x) (Some (k + suc (length xs))) None)
    by true rest = refl
    by false rest = rest

pub keeps_more : (old new : Places) (values : List Literal) (i : ℕ) (value : Literal) → i < length values → get_or values i value ≡ value → KeepsPlaces old (take i values) → NotesPlace old new value i → KeepsPlaces new (take (i + 1) values)
unfolding first_place
keeps_more old new values i value h at keeps notes = record {
  place = λ l.
      let front : length (take i values) ≡ i = length-take-le i values (omega arith) in
      let more : take (i + 1) values ≡ take i values ++ value ∷ [] = take_more values i value h ∙ ap (λ v. take i values ++ v ∷ []) at in
      notes l ∙ ap (λ o. option_or o (cond (literal_same value l) (Some i) None)) (keeps.place l)
      ∙ ap (λ n. option_or (position_from (λ v. literal_same v l) 0 (take i values)) (cond (literal_same value l) (Some n) None)) (omega arith)
      ∙ sym (position_more (λ v. literal_same v l) 0 (take i values) value)
      ∙ ap (position_from (λ v. literal_same v l) 0) (sym more);
}

pub keeps_none : (places : Places) → places.null ≡ None → places.yes ≡ None → places.no ≡ None → places.ints.entries ≡ [] → places.texts.entries ≡ [] → KeepsPlaces places []
unfolding first_place
keeps_none places null_is yes_is no_is ints texts = record { place = at }
  where
    at : (l : Literal) → place_in places l ≡ first_place [] l
    at literal.Null = null_is
    at (literal.Flag true) = yes_is
    at (literal.Flag false) = no_is
    at (literal.Int n) = rw ints refl
    at (literal.Text t) = rw texts refl

-- ---- what is found

any_at : {X : Type 0} (p : X → Bool) (k : ℕ) (xs : List X) → is_some (position_from p k xs) ≡ list_any p xs
any_at p k [] = refl
any_at p k (x ∷ xs) = by (p x) (any_at p (k + 1) xs)
  where
    by : (b : Bool) → is_some (position_from p (k + 1) xs) ≡ list_any p xs → is_some (cond b (Some k) (position_from p (k + 1) xs)) ≡ (b || list_any p xs)
    by true rest = refl
    by false rest = rest

pub place_of_any : (values : List Literal) (o : Option Literal) → is_some (option_and_then (first_place values) o) ≡ is_among values o
unfolding first_place
place_of_any values None = refl
place_of_any values (Some l) = any_at (λ v. literal_same v l) 0 values

text_any : (names : List (List ℕ)) (name : List ℕ) → list_any (λ v. literal_same v (literal.Text name)) (map literal.Text names) ≡ list_any (λ n. bytes_eq n name) names
text_any [] name = refl
text_any (n ∷ names) name = ap (λ b. bytes_eq n name || b) (text_any names name)

pub place_of_text_any : (values : List Literal) (names : List (List ℕ)) (name : List ℕ) → values ≡ map literal.Text names → is_some (first_place values (literal.Text name)) ≡ list_any (λ n. bytes_eq n name) names
unfolding first_place
place_of_text_any values names name is = ap (λ vs. is_some (first_place vs (literal.Text name))) is ∙ any_at (λ v. literal_same v (literal.Text name)) 0 (map literal.Text names) ∙ text_any names name

-- the element at a place that is counted from k on
abbrev element_from : {X : Type 0} → List X → ℕ → Option ℕ → Option X
element_from xs k None = None
element_from xs k (Some n) = slice_get xs (n - k)

above : {X : Type 0} (p : X → Bool) (k : ℕ) (xs : List X) (n : ℕ) → position_from p k xs ≡ Some n → k ≤ n
above p k [] n e = absurd cc
above p k (x ∷ xs) n e = by (p x) e (λ f. above p (k + 1) xs n f)
  where
    by : (b : Bool) → cond b (Some k) (position_from p (k + 1) xs) ≡ Some n → (position_from p (k + 1) xs ≡ Some n → k + 1 ≤ n) → k ≤ n
    by true e rest = let same : k ≡ n = cc in omega arith
    by false e rest = let h = rest e in omega arith

next_element : {X : Type 0} (x : X) (xs : List X) (k : ℕ) (o : Option ℕ) → ((n : ℕ) → o ≡ Some n → k + 1 ≤ n) → element_from (x ∷ xs) k o ≡ element_from xs (k + 1) o
next_element x xs k None h = refl
next_element x xs k (Some n) h =
    let past = h n refl in
    let less : n - k ≡ suc (n - (k + 1)) = omega arith in
    ap (slice_get (x ∷ xs)) less

found_from : (members : List EnumMember) (l : Literal) (k : ℕ) → element_from members k (position_from (λ v. literal_same v l) k (map enum_value members)) ≡ member_with members l
found_from [] l k = refl
found_from (m ∷ members) l k =
    by (literal_same m.value l)
    (next_element m members k (position_from (λ v. literal_same v l) (k + 1) (map enum_value members)) (λ n e. above (λ v. literal_same v l) (k + 1) (map enum_value members) n e)
    ∙ found_from members l (k + 1))
  where
    by : (b : Bool) → element_from (m ∷ members) k (position_from (λ v. literal_same v l) (k + 1) (map enum_value members)) ≡ member_with members l →
        element_from (m ∷ members) k (cond b (Some k) (position_from (λ v. literal_same v l) (k + 1) (map enum_value members))) ≡ cond b (Some m) (member_with members l)
    by true rest = let none : k - k ≡ 0 = omega arith in ap (slice_get (m ∷ members)) none
    by false rest = rest

from_zero : (members : List EnumMember) (o : Option ℕ) → option_and_then (slice_get members) o ≡ element_from members 0 o
from_zero members None = refl
from_zero members (Some n) = let same : n ≡ n - 0 = omega arith in ap (slice_get members) same

pub found_there : (members : List EnumMember) (values : List Literal) (l : Literal) → values ≡ map enum_value members → option_and_then (slice_get members) (first_place values l) ≡ member_with members l
unfolding first_place
found_there members values l is =
    ap (λ vs. option_and_then (slice_get members) (first_place vs l)) is
    ∙ from_zero members (position_from (λ v. literal_same v l) 0 (map enum_value members)) ∙ found_from members l 0

pub found_by : (members : List EnumMember) (values : List Literal) (o : Option Literal) → values ≡ map enum_value members → option_and_then (slice_get members) (option_and_then (first_place values) o) ≡ option_and_then (member_with members) o
found_by members values None is = refl
found_by members values (Some l) is = found_there members values l is

pub with_place : (members seen : List EnumMember) (values : List Literal) (l : Literal) (o : Option ℕ) (found : Option EnumMember) → values ≡ map enum_value members → members ≡ seen → o ≡ first_place values l → found ≡ option_and_then (slice_get members) o → found ≡ member_with seen l
with_place members seen values l o found is view place there =
    there ∙ ap (option_and_then (slice_get members)) place ∙ found_there members values l is ∙ ap (λ ms. member_with ms l) view
