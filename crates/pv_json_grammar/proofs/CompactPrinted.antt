-- No byte of the compact JSON of a tree is a control character.
use Rattle.std.proofs.Common.{◌≡◌, ◌≢◌, ℕ, zero, suc, ◌/◌, ◌%◌, ◌≤◌, true, false, List, [], ◌∷◌, ◌++◌, map, codes, sym, ap, ◌∙◌, subst, inl, inr, arith}
use Rattle.std.proofs.lemmas.Bool.{lt-ltb, le-ltb, cases_lt}
use Rattle.std.proofs.lemmas.Bool.Decides.{eqb_tells, nat_tests}
use Rattle.std.proofs.lemmas.List.Elements.{All-from_recursion, All-weaker, recursion_from_All}
use Rattle.std.specs.Prelude.{All, IsTrue, IsUtf8, ◌⊎◌}
use Rattle.std.specs.List.{AllByRecursion, flat_map}
use Rattle.pv_number.specs.Scanning.{is_digit}
use Rattle.pv_number.specs.Grammar.{AllDigits, IsMinus, IsSign, IsIntegerPart, IsFraction, IsExponent, IsNumber}
use Rattle.pv_tree.specs.declared.Tree.{Tree, out-Tree, roll-Tree, roll-out-Tree}
use Rattle.pv_tree.specs.declared.Tree.TheVariants.{rolls-Object}
use Rattle.pv_tree.specs.declared.Tree.TheOpen.{Tree-F}
use Rattle.pv_tree.specs.declared.Tree.TheFolds.{fold-roll-Tree}
use Rattle.pv_notation.specs.Strings.{hex_digit, short_escape, escaped, quoted}
use Rattle.pv_notation.specs.Lists.{joined}
use Rattle.pv_notation.specs.Compact.{compact, compact_member, compact_step}
use Rattle.pv_notation.proofs.Objects.{compact_object}
use Rattle.pv_json_grammar.specs.DocumentTrees.{IsLevel, AreMembers, IsDocumentTree}

-- no control character
abbrev Printed : List ℕ → Type 0
Printed bs = AllByRecursion (λ b. 32 ≤ b) bs

printed_append : (xs ys : List ℕ) → Printed xs → Printed ys → Printed (xs ++ ys)
printed_append [] ys p q = q
printed_append (x ∷ xs) ys p q = (p.0, printed_append xs ys p.1 q)

printed_between : (a b : ℕ) (xs : List ℕ) → 32 ≤ a → 32 ≤ b → Printed xs → Printed (a ∷ xs ++ b ∷ [])
printed_between a b xs l h p = (l, printed_append xs (b ∷ []) p (h, tt))

-- words
null_printed : Printed (codes "null")
null_printed = (omega arith, (omega arith, (omega arith, (omega arith, tt))))

true_printed : Printed (codes "true")
true_printed = (omega arith, (omega arith, (omega arith, (omega arith, tt))))

false_printed : Printed (codes "false")
false_printed = (omega arith, (omega arith, (omega arith, (omega arith, (omega arith, tt)))))

-- numbers
digit_printed : (b : ℕ) → IsTrue (is_digit b) → 32 ≤ b
digit_printed b d = grind (arith, nat_tests)

digits_printed : (bs : List ℕ) → AllDigits bs → Printed bs
digits_printed [] d = tt
digits_printed (b ∷ bs) d = (digit_printed b d.0, digits_printed bs d.1)

minus_printed : (t : List ℕ) → IsMinus t → Printed t
minus_printed t (inl e) = subst Printed (sym e) tt
minus_printed t (inr e) = subst Printed (sym e) (omega arith, tt)

sign_printed : (t : List ℕ) → IsSign t → Printed t
sign_printed t (inl e) = subst Printed (sym e) tt
sign_printed t (inr (inl e)) = subst Printed (sym e) (omega arith, tt)
sign_printed t (inr (inr e)) = subst Printed (sym e) (omega arith, tt)

whole_printed : (t : List ℕ) → IsIntegerPart t → Printed t
whole_printed t (inl e) = subst Printed (sym e) (omega arith, tt)
whole_printed t (inr (b, bs, e, n, d, ds)) = subst Printed (sym e) (digit_printed b d, digits_printed bs ds)

fraction_printed : (t : List ℕ) → IsFraction t → Printed t
fraction_printed t (inl e) = subst Printed (sym e) tt
fraction_printed t (inr (ds, e, s)) = subst Printed (sym e) (omega arith, digits_printed ds s.0)

letter_printed : (e : ℕ) → (e ≡ 101) ⊎ (e ≡ 69) → 32 ≤ e
letter_printed e (inl h) = omega arith
letter_printed e (inr h) = omega arith

exponent_printed : (t : List ℕ) → IsExponent t → Printed t
exponent_printed t (inl e) = subst Printed (sym e) tt
exponent_printed t (inr (l, s, ds, e, h, i, d)) = subst Printed (sym e) (letter_printed l h, printed_append s ds (sign_printed s i) (digits_printed ds d.0))

number_printed : (t : List ℕ) → IsNumber t → Printed t
number_printed t n =
    subst Printed (sym n.parts)
    (printed_append n.minus _ (minus_printed n.minus n.is_minus)
    (printed_append n.whole _ (whole_printed n.whole n.is_whole)
    (printed_append n.fraction n.exponent (fraction_printed n.fraction n.is_fraction) (exponent_printed n.exponent n.is_exponent))))

-- strings
hex_digit_printed : (d : ℕ) → 32 ≤ hex_digit d
hex_digit_printed d = grind (arith, nat_tests)

letter_or_none : (b : ℕ) → short_escape b ≢ 0 → 32 ≤ short_escape b
unfolding short_escape
letter_or_none b n = grind (arith, nat_tests)

escaped_printed : (b : ℕ) → Printed (escaped b)
unfolding escaped
escaped_printed b = elim (eqb_tells (short_escape b) 0) [
  | inl h ↦ elim (cases_lt b 32) [
    | inl g ↦ rw (h.0, lt-ltb b 32 g) (omega arith, (omega arith, (omega arith, (omega arith, (hex_digit_printed (b / 16), (hex_digit_printed (b % 16), tt))))))
    | inr g ↦ rw (h.0, le-ltb b 32 g) (g, tt)
  ]
  | inr h ↦ rw (h.0) (omega arith, (letter_or_none b h.1, tt))
]

all_escaped_printed : (bs : List ℕ) → Printed (flat_map escaped bs)
all_escaped_printed [] = tt
all_escaped_printed (b ∷ bs) = printed_append (escaped b) (flat_map escaped bs) (escaped_printed b) (all_escaped_printed bs)

quoted_printed : (bs : List ℕ) → Printed (quoted bs)
quoted_printed bs = printed_between 34 34 (flat_map escaped bs) (omega arith) (omega arith) (all_escaped_printed bs)

-- texts with commas between them
more_printed : (texts : List (List ℕ)) → AllByRecursion Printed texts → Printed (flat_map (λ y. 44 ∷ y) texts)
more_printed [] p = tt
more_printed (x ∷ xs) p = (omega arith, printed_append x (flat_map (λ y. 44 ∷ y) xs) p.0 (more_printed xs p.1))

joined_printed : (texts : List (List ℕ)) → AllByRecursion Printed texts → Printed (joined texts)
joined_printed [] p = tt
joined_printed (x ∷ xs) p = printed_append x (flat_map (λ y. 44 ∷ y) xs) p.0 (more_printed xs p.1)

-- one level, by the items of an array and the members of an object
level_printed : (items : List Tree → Type 0) (members : List (List ℕ × Tree) → Type 0) → ((ts : List Tree) → items ts → AllByRecursion Printed (map compact ts))
    → ((ms : List (List ℕ × Tree)) → members ms → AllByRecursion Printed (map compact_member ms)) → (x : Tree-F Tree) → IsLevel items members x → Printed (compact (roll-Tree x))
level_printed items members f g Tree-F.Null l = subst Printed (sym (fold-roll-Tree (List ℕ) compact_step Tree-F.Null)) null_printed
level_printed items members f g (Tree-F.Bool true) l = subst Printed (sym (fold-roll-Tree (List ℕ) compact_step (Tree-F.Bool true))) true_printed
level_printed items members f g (Tree-F.Bool false) l = subst Printed (sym (fold-roll-Tree (List ℕ) compact_step (Tree-F.Bool false))) false_printed
level_printed items members f g (Tree-F.Num lexeme) l = subst Printed (sym (fold-roll-Tree (List ℕ) compact_step (Tree-F.Num lexeme))) (number_printed lexeme l)
level_printed items members f g (Tree-F.Str text) l = subst Printed (sym (fold-roll-Tree (List ℕ) compact_step (Tree-F.Str text))) (quoted_printed text)
level_printed items members f g (Tree-F.Array ts) l =
    subst Printed (sym (fold-roll-Tree (List ℕ) compact_step (Tree-F.Array ts)))
    (printed_between 91 93 (joined (map compact ts)) (omega arith) (omega arith) (joined_printed (map compact ts) (f ts l)))
level_printed items members f g (Tree-F.Object d) l =
    subst Printed (sym (ap compact (rolls-Object d) ∙ compact_object d))
    (printed_between 123 125 (joined (map compact_member d.members)) (omega arith) (omega arith) (joined_printed (map compact_member d.members) (g d.members l)))

module _ (Inner : Tree → Type 0) (printed : (t : Tree) → Inner t → Printed (compact t)) where
  items_printed : (ts : List Tree) → AllByRecursion Inner ts → AllByRecursion Printed (map compact ts)
  items_printed [] a = tt
  items_printed (t ∷ ts) a = (printed t a.0, items_printed ts a.1)

  members_printed : (ms : List (List ℕ × Tree)) → AllByRecursion (λ m. IsUtf8 m.0 × Inner m.1) ms → AllByRecursion Printed (map compact_member ms)
  members_printed [] a = tt
  members_printed (m ∷ ms) a = (printed_append (quoted m.0) (58 ∷ compact m.1) (quoted_printed m.0) (omega arith, printed m.1 a.0.1), members_printed ms a.1)

  nesting_printed : (x : Tree-F Tree) → IsLevel (All Inner) (AreMembers Inner) x → Printed (compact (roll-Tree x))
  nesting_printed x l =
      level_printed (All Inner) (AreMembers Inner)
      (λ ts a. items_printed ts (recursion_from_All Inner ts a))
      (λ ms a. members_printed ms (recursion_from_All (λ (m : List ℕ × Tree). IsUtf8 m.0 × Inner m.1) ms a)) x l

tree_printed : (n : ℕ) (t : Tree) → IsDocumentTree n t → Printed (compact t)
unfolding IsDocumentTree
tree_printed zero t d = subst (λ u. Printed (compact u)) (roll-out-Tree t) (level_printed (λ ts. ⊥) (λ ms. ⊥) (λ ts a. absurd a) (λ ms a. absurd a) (out-Tree t) d)
tree_printed (suc n) t d = subst (λ u. Printed (compact u)) (roll-out-Tree t) (nesting_printed (IsDocumentTree n) (tree_printed n) (out-Tree t) d)

pub compact_printed : (n : ℕ) (t : Tree) → IsDocumentTree n t → All (λ b. 32 ≤ b) (compact t)
compact_printed n t d = All-from_recursion (λ b. 32 ≤ b) (compact t) (tree_printed n t d)

pub compact_line : (n : ℕ) (t : Tree) → IsDocumentTree n t → All (λ b. b ≢ 10) (compact t)
compact_line n t d = All-weaker (λ b. 32 ≤ b) (λ b. b ≢ 10) (λ b l e. omega arith) (compact t) (compact_printed n t d)
