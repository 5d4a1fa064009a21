-- Two texts with what follows each: where the whole is the same, so are the texts, and what follows.
use Rattle.std.proofs.Common.{◌≡◌, ◌≢◌, ℕ, suc, ◌<◌, ◌^◌, ℤ, pos, negsuc, List, [], ◌∷◌, ◌++◌, length, map, refl, sym, ap, ◌∙◌, subst, append_assoc, arith}
use Rattle.std.specs.Int.{IsInRange}
use Rattle.std.specs.List.{AllByRecursion, flat_map}
use Rattle.std.specs.Fmt.{decimal, signed_decimal}
use Rattle.std.specs.Str.Parse.{AllDigits, digits_value}
use Rattle.std.proofs.lemmas.Fmt.{decimal_is_IsNumeral_wide}
use Rattle.std.proofs.lemmas.Str.Parse.{digit_from_value}
use Rattle.std.proofs.lemmas.List.{append_cancel_left}
use Rattle.pv_notation.specs.Strings.{hex_byte, escaped, quoted}
use Rattle.pv_notation.specs.Lists.{list_text}
use Rattle.pv_notation.specs.Notation.{tagged}
use Rattle.pv_notation.proofs.Codes.{first, same_first, same_rest, same_cons, hex_same, text_same}

abbrev IsDigit : ℕ → Type 0
IsDigit = IsInRange 48 57

-- no number goes on there
abbrev pub Ends : List ℕ → Type 0
Ends [] = Unit {0}
Ends (b ∷ bs) = IsDigit b → ⊥

-- E holds where t and u begin the same text
abbrev pub Same : List ℕ → List ℕ → Type 0 → Type 0
Same t u E = (r s : List ℕ) → Ends r → Ends s → t ++ r ≡ u ++ s → E × (r ≡ s)

pub same_so : {E F : Type 0} (t u : List ℕ) → (E → F) → Same t u E → Same t u F
same_so t u f h r s p q e = let k = h r s p q e in (f k.0, k.1)

pub same_at : {E : Type 0} (t u v w : List ℕ) → t ≡ v → u ≡ w → Same v w E → Same t u E
same_at {E} t u v w e f h = subst (λ x. Same x u E) (sym e) (subst (λ x. Same v x E) (sym f) h)

-- no digit is one of the brackets and commas
ends_comma : IsDigit 44 → ⊥
ends_comma d = omega (arith, d.0)

ends_bracket : IsDigit 93 → ⊥
ends_bracket d = omega (arith, d.1)

ends_brace : IsDigit 125 → ⊥
ends_brace d = omega (arith, d.1)

-- numbers
AreDigits : List ℕ → Type 0
AreDigits = AllByRecursion IsDigit

are_digits : (ds : List ℕ) → AllDigits 10 ds → AreDigits ds
unfolding AreDigits
are_digits [] p = tt
are_digits (d ∷ ds) p = (digit_from_value d p.0, are_digits ds p.1)

digits_same : (xs ys : List ℕ) → AreDigits xs → AreDigits ys → Same xs ys (xs ≡ ys)
unfolding AreDigits
digits_same [] [] a b r s p q e = (refl, e)
digits_same [] (y ∷ ys) a b r s p q e = absurd (subst Ends e p b.0)
digits_same (x ∷ xs) [] a b r s p q e = absurd (subst Ends (sym e) q a.0)
digits_same (x ∷ xs) (y ∷ ys) a b r s p q e =
    let k = digits_same xs ys a.1 b.1 r s p q (same_rest x y (xs ++ r) (ys ++ s) e) in
    (same_cons x y xs ys (same_first x y (xs ++ r) (ys ++ s) e) k.0, k.1)

digits_start : (ds r : List ℕ) → AreDigits ds → 0 < length ds → IsDigit (first (ds ++ r))
unfolding AreDigits
digits_start [] r a l = absurd (omega arith)
digits_start (d ∷ ds) r a l = a.0

decimal_digits : (n : ℕ) → n < 10 ^ 64 → AreDigits (decimal n)
decimal_digits n h = are_digits (decimal n) (decimal_is_IsNumeral_wide n h).0.1

decimal_same : (m n : ℕ) → m < 10 ^ 64 → n < 10 ^ 64 → Same (decimal m) (decimal n) (m ≡ n)
decimal_same m n h k =
    same_so (decimal m) (decimal n) (λ e. sym (decimal_is_IsNumeral_wide m h).1 ∙ ap (digits_value 10) e ∙ (decimal_is_IsNumeral_wide n k).1)
    (digits_same (decimal m) (decimal n) (decimal_digits m h) (decimal_digits n k))

pub decimal_start : (n : ℕ) (r : List ℕ) → n < 10 ^ 64 → IsDigit (first (decimal n ++ r))
decimal_start n r h = digits_start (decimal n) r (decimal_digits n h) (decimal_is_IsNumeral_wide n h).0.0

abbrev pub IsShort : ℤ → Type 0
IsShort (pos n) = n < 10 ^ 64
IsShort (negsuc n) = suc n < 10 ^ 64

pub signed_same : (y z : ℤ) → IsShort y → IsShort z → Same (signed_decimal y) (signed_decimal z) (y ≡ z)
signed_same (pos m) (pos n) h k = same_so (decimal m) (decimal n) (ap pos) (decimal_same m n h k)
signed_same (pos m) (negsuc n) h k = λ r s p q e. absurd (omega (arith, (decimal_start m r h).0, ap first e))
signed_same (negsuc m) (pos n) h k = λ r s p q e. absurd (omega (arith, (decimal_start n s k).0, ap first e))
signed_same (negsuc m) (negsuc n) h k = λ r s p q e.
    let d = decimal_same (suc m) (suc n) h k r s p q (same_rest 45 45 (decimal (suc m) ++ r) (decimal (suc n) ++ s) e) in
    let l : m ≡ n = omega (arith, d.0) in
    (ap negsuc l, d.1)

-- texts between quotes
closes : (xs r : List ℕ) → (xs ++ 34 ∷ []) ++ r ≡ xs ++ 34 ∷ r
closes xs r = append_assoc xs (34 ∷ []) r

pub quoted_same : (xs ys : List ℕ) → Same (quoted xs) (quoted ys) (xs ≡ ys)
quoted_same xs ys r s p q e =
    text_same xs ys r s (sym (closes (flat_map escaped xs) r) ∙ same_rest 34 34 ((flat_map escaped xs ++ 34 ∷ []) ++ r) ((flat_map escaped ys ++ 34 ∷ []) ++ s) e ∙ closes (flat_map escaped ys) s)

pub quoted_hex_same : (xs ys : List ℕ) → Same (34 ∷ flat_map hex_byte xs ++ 34 ∷ []) (34 ∷ flat_map hex_byte ys ++ 34 ∷ []) (xs ≡ ys)
quoted_hex_same xs ys r s p q e =
    hex_same xs ys r s (sym (closes (flat_map hex_byte xs) r) ∙ same_rest 34 34 ((flat_map hex_byte xs ++ 34 ∷ []) ++ r) ((flat_map hex_byte ys ++ 34 ∷ []) ++ s) e ∙ closes (flat_map hex_byte ys) s)

-- an object with one member
tagged_whole : (name t r : List ℕ) → tagged name t ++ r ≡ (123 ∷ quoted name ++ 58 ∷ []) ++ (t ++ 125 ∷ r)
tagged_whole name t r =
    append_assoc (123 ∷ quoted name ++ 58 ∷ t) (125 ∷ []) r ∙ append_assoc (123 ∷ quoted name) (58 ∷ t) (125 ∷ r)
    ∙ sym (append_assoc (123 ∷ quoted name) (58 ∷ []) (t ++ 125 ∷ r))

pub tagged_same : {E : Type 0} (name t u : List ℕ) → Same t u E → Same (tagged name t) (tagged name u) E
tagged_same name t u h r s p q e =
    let k = h (125 ∷ r) (125 ∷ s) ends_brace ends_brace
    (append_cancel_left (123 ∷ quoted name ++ 58 ∷ []) (t ++ 125 ∷ r) (u ++ 125 ∷ s) (sym (tagged_whole name t r) ∙ e ∙ tagged_whole name u s)) in
    (k.0, same_rest 125 125 r s k.1)

tag_whole : (name t r : List ℕ) → tagged name t ++ r ≡ 123 ∷ 34 ∷ (flat_map escaped name ++ 34 ∷ 58 ∷ (t ++ 125 ∷ r))
tag_whole name t r =
    tagged_whole name t r
    ∙ ap (λ x. 123 ∷ 34 ∷ x) (append_assoc (flat_map escaped name ++ 34 ∷ []) (58 ∷ []) (t ++ 125 ∷ r) ∙ append_assoc (flat_map escaped name) (34 ∷ []) (58 ∷ (t ++ 125 ∷ r)))

pub tag_same : (m n t u r s : List ℕ) → tagged m t ++ r ≡ tagged n u ++ s → m ≡ n
tag_same m n t u r s e =
    let a : List ℕ = flat_map escaped m ++ 34 ∷ 58 ∷ (t ++ 125 ∷ r) in
    let b : List ℕ = flat_map escaped n ++ 34 ∷ 58 ∷ (u ++ 125 ∷ s) in
    (text_same m n (58 ∷ (t ++ 125 ∷ r)) (58 ∷ (u ++ 125 ∷ s)) (same_rest 34 34 a b (same_rest 123 123 (34 ∷ a) (34 ∷ b) (sym (tag_whole m t r) ∙ e ∙ tag_whole n u s)))).0

-- what stands behind an item of a list, to the bracket
abbrev pub behind : List (List ℕ) → List ℕ
behind ts = flat_map (λ y. 44 ∷ y) ts ++ 93 ∷ []

behind_ends : (ts : List (List ℕ)) (r : List ℕ) → Ends (behind ts ++ r)
behind_ends [] r = ends_bracket
behind_ends (t ∷ ts) r = ends_comma

item_whole : (t : List ℕ) (ts : List (List ℕ)) (r : List ℕ) → ((t ++ flat_map (λ y. 44 ∷ y) ts) ++ 93 ∷ []) ++ r ≡ t ++ (behind ts ++ r)
item_whole t ts r = ap (λ x. x ++ r) (append_assoc t (flat_map (λ y. 44 ∷ y) ts) (93 ∷ [])) ∙ append_assoc t (behind ts) r

module _ {E F : Type 0} (t u : List ℕ) (ts us : List (List ℕ)) (h : Same t u E) (g : Same (behind ts) (behind us) F) where
  item_same : (r s : List ℕ) → Ends r → Ends s → t ++ (behind ts ++ r) ≡ u ++ (behind us ++ s) → (E × F) × (r ≡ s)
  item_same r s p q e =
      let k = h (behind ts ++ r) (behind us ++ s) (behind_ends ts r) (behind_ends us s) e in
      let l = g r s p q k.1 in
      ((k.0, l.0), l.1)

  pub more_same : Same (behind (t ∷ ts)) (behind (u ∷ us)) (E × F)
  more_same r s p q e =
      item_same r s p q (sym (item_whole t ts r) ∙ same_rest 44 44 (((t ++ flat_map (λ y. 44 ∷ y) ts) ++ 93 ∷ []) ++ r) (((u ++ flat_map (λ y. 44 ∷ y) us) ++ 93 ∷ []) ++ s) e ∙ item_whole u us s)

  pub list_same : Same (list_text (t ∷ ts)) (list_text (u ∷ us)) (E × F)
  list_same r s p q e =
      item_same r s p q (sym (item_whole t ts r) ∙ same_rest 91 91 (((t ++ flat_map (λ y. 44 ∷ y) ts) ++ 93 ∷ []) ++ r) (((u ++ flat_map (λ y. 44 ∷ y) us) ++ 93 ∷ []) ++ s) e ∙ item_whole u us s)

pub end_same : Same (behind []) (behind []) (Unit {0})
end_same r s p q e = (tt, same_rest 93 93 r s e)

-- lists of two, three and four items
module _ {A B : Type 0} (a k b l : List ℕ) (p : Same a k A) (q : Same b l B) where
  pub two_same : Same (list_text (a ∷ b ∷ [])) (list_text (k ∷ l ∷ [])) (A × (B × Unit {0}))
  two_same = list_same a k (b ∷ []) (l ∷ []) p (more_same b l [] [] q end_same)

module _ {A B C : Type 0} (a k b l c m : List ℕ) (p : Same a k A) (q : Same b l B) (r : Same c m C) where
  pub three_same : Same (list_text (a ∷ b ∷ c ∷ [])) (list_text (k ∷ l ∷ m ∷ [])) (A × (B × (C × Unit {0})))
  three_same = list_same a k (b ∷ c ∷ []) (l ∷ m ∷ []) p (more_same b l (c ∷ []) (m ∷ []) q (more_same c m [] [] r end_same))

module _ {A B C D : Type 0} (a k b l c m d n : List ℕ) (p : Same a k A) (q : Same b l B) (r : Same c m C) (s : Same d n D) where
  pub four_same : Same (list_text (a ∷ b ∷ c ∷ d ∷ [])) (list_text (k ∷ l ∷ m ∷ n ∷ [])) (A × (B × (C × (D × Unit {0}))))
  four_same =
      list_same a k (b ∷ c ∷ d ∷ []) (l ∷ m ∷ n ∷ []) p
      (more_same b l (c ∷ d ∷ []) (m ∷ n ∷ []) q (more_same c m (d ∷ []) (n ∷ []) r (more_same d n [] [] s end_same)))

-- the text of an item, among those that G holds of, tells the item
abbrev pub Tells : {X : Type 0} → (X → List ℕ) → (X → Type 0) → X → Type 0
Tells {X} f G x = (y : X) → G x → G y → Same (f x) (f y) (x ≡ y)

module _ {X : Type 0} (f : X → List ℕ) (G : X → Type 0) (starts : (x : X) (r : List ℕ) → G x → first (f x ++ r) ≢ 93) where
  pub behind_items_same : (xs ys : List X) → AllByRecursion (Tells f G) xs → AllByRecursion G xs → AllByRecursion G ys → Same (behind (map f xs)) (behind (map f ys)) (xs ≡ ys)
  behind_items_same [] [] t g h = λ r s p q e. (refl, same_rest 93 93 r s e)
  behind_items_same [] (y ∷ ys) t g h = λ r s p q e. absurd (omega (arith, ap first e))
  behind_items_same (x ∷ xs) [] t g h = λ r s p q e. absurd (omega (arith, ap first e))
  behind_items_same (x ∷ xs) (y ∷ ys) t g h =
      same_so (behind (f x ∷ map f xs)) (behind (f y ∷ map f ys)) (λ k. same_cons x y xs ys k.0 k.1)
      (more_same (f x) (f y) (map f xs) (map f ys) (t.0 y g.0 h.0) (behind_items_same xs ys t.1 g.1 h.1))

  pub items_same : (xs ys : List X) → AllByRecursion (Tells f G) xs → AllByRecursion G xs → AllByRecursion G ys → Same (list_text (map f xs)) (list_text (map f ys)) (xs ≡ ys)
  items_same [] [] t g h = λ r s p q e. (refl, same_rest 93 93 r s (same_rest 91 91 (93 ∷ r) (93 ∷ s) e))
  items_same [] (y ∷ ys) t g h = λ r s p q e.
      absurd (starts y (behind (map f ys) ++ s) h.0
      (sym (ap first (same_rest 91 91 (93 ∷ r) (((f y ++ flat_map (λ z. 44 ∷ z) (map f ys)) ++ 93 ∷ []) ++ s) e ∙ item_whole (f y) (map f ys) s))))
  items_same (x ∷ xs) [] t g h = λ r s p q e.
      absurd (starts x (behind (map f xs) ++ r) g.0
      (sym (ap first (same_rest 91 91 (93 ∷ s) (((f x ++ flat_map (λ z. 44 ∷ z) (map f xs)) ++ 93 ∷ []) ++ r) (sym e) ∙ item_whole (f x) (map f xs) r))))
  items_same (x ∷ xs) (y ∷ ys) t g h =
      same_so (list_text (f x ∷ map f xs)) (list_text (f y ∷ map f ys)) (λ k. same_cons x y xs ys k.0 k.1)
      (list_same (f x) (f y) (map f xs) (map f ys) (t.0 y g.0 h.0) (behind_items_same xs ys t.1 g.1 h.1))
