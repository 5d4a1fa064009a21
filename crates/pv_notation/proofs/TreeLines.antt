-- No tree is written with a line feed, where its lexemes are numbers.
use Rattle.std.proofs.Common.{◌≡◌, ◌≢◌, ℕ, true, false, IsTrue, List, [], ◌∷◌, ◌++◌, map, sym, ◌∙◌, subst, ◌⊎◌, inl, inr, All, arith}
use Rattle.std.specs.List.{AllByRecursion}
use Rattle.std.proofs.lemmas.Bool.{false≢true}
use Rattle.std.proofs.lemmas.List.Elements.{All-from_recursion}
use Rattle.pv_number.specs.Scanning.{is_digit}
use Rattle.pv_number.specs.Grammar.{IsNumber, AllDigits, IsMinus, IsSign, IsIntegerPart, IsFraction, IsExponent}
use Rattle.pv_tree.specs.declared.Tree.{Tree, map-Tree}
use Rattle.pv_tree.specs.declared.Tree.TheOpen.{Tree-F}
use Rattle.pv_tree.specs.declared.Tree.TheViews.{roll-Tree, out-roll-Tree}
use Rattle.pv_tree.specs.declared.Tree.TheFolds.{fold-roll-Tree, every_here-Tree, every_held-Tree}
use Rattle.pv_notation.specs.Strings.{quoted}
use Rattle.pv_notation.specs.Lists.{joined}
use Rattle.pv_notation.specs.Compact.{compact, compact_step, member_text}
use Rattle.pv_notation.specs.Numbers.{HasNumbers, NumberAt}
use Rattle.pv_notation.proofs.Inside.{AllInTree, in_tree_held, by_tree_levels}
use Rattle.pv_notation.proofs.Lines.{IsLine, AreLines, line_append, quoted_line, list_text_line, joined_line}

digit_other : (b : ℕ) → IsTrue (is_digit b) → b ≢ 10
digit_other b d e = false≢true (subst (λ x. IsTrue (is_digit x)) e d)

digits_line : (ds : List ℕ) → AllDigits ds → IsLine ds
digits_line [] p = tt
digits_line (d ∷ ds) p = (digit_other d p.0, digits_line ds p.1)

line_at : (t u : List ℕ) → t ≡ u → IsLine u → IsLine t
line_at t u e p = subst IsLine (sym e) p

minus_line : (t : List ℕ) → IsMinus t → IsLine t
minus_line t (inl e) = line_at t [] e tt
minus_line t (inr e) = line_at t (45 ∷ []) e (omega arith, tt)

sign_line : (t : List ℕ) → IsSign t → IsLine t
sign_line t (inl e) = line_at t [] e tt
sign_line t (inr (inl e)) = line_at t (45 ∷ []) e (omega arith, tt)
sign_line t (inr (inr e)) = line_at t (43 ∷ []) e (omega arith, tt)

whole_line : (t : List ℕ) → IsIntegerPart t → IsLine t
whole_line t (inl e) = line_at t (48 ∷ []) e (omega arith, tt)
whole_line t (inr w) = line_at t (w.0 ∷ w.1) w.2 (digit_other w.0 w.4, digits_line w.1 w.5)

fraction_line : (t : List ℕ) → IsFraction t → IsLine t
fraction_line t (inl e) = line_at t [] e tt
fraction_line t (inr f) = line_at t (46 ∷ f.0) f.1 (omega arith, digits_line f.0 f.2.0)

exponent_line : (t : List ℕ) → IsExponent t → IsLine t
exponent_line t (inl e) = line_at t [] e tt
exponent_line t (inr x) = line_at t (x.0 ∷ x.1 ++ x.2) x.3 (mark x.0 x.4, line_append x.1 x.2 (sign_line x.1 x.5) (digits_line x.2 x.6.0))
  where
    mark : (b : ℕ) → (b ≡ 101) ⊎ (b ≡ 69) → b ≢ 10
    mark b (inl e) = omega arith
    mark b (inr e) = omega arith

number_line : (text : List ℕ) → IsNumber text → IsLine text
number_line text n =
    line_at text (n.minus ++ (n.whole ++ (n.fraction ++ n.exponent))) n.parts
    (line_append n.minus _ (minus_line n.minus n.is_minus) (line_append n.whole _ (whole_line n.whole n.is_whole)
    (line_append n.fraction n.exponent (fraction_line n.fraction n.is_fraction) (exponent_line n.exponent n.is_exponent))))

abbrev LineOf : Tree → Type 0
LineOf t = HasNumbers t → IsLine (compact t)

trees_lines : (ts : List Tree) → AllByRecursion LineOf ts → AllByRecursion HasNumbers ts → AreLines (map compact ts)
trees_lines [] p n = tt
trees_lines (t ∷ ts) p n = (p.0 n.0, trees_lines ts p.1 n.1)

members_lines : (ms : List (List ℕ × Tree)) → AllByRecursion (λ m. LineOf m.1) ms → AllByRecursion (λ m. HasNumbers m.1) ms → AreLines (map member_text (map (λ m. (m.0, compact m.1)) ms))
members_lines [] p n = tt
members_lines (m ∷ ms) p n = (line_append (quoted m.0) (58 ∷ compact m.1) (quoted_line m.0) (omega arith, p.0 n.0), members_lines ms p.1 n.1)

level_line : (x : Tree-F Tree) → AllInTree LineOf x → NumberAt x → AllInTree HasNumbers x → IsLine (compact_step (map-Tree Tree (List ℕ) compact x))
level_line Tree-F.Null p h n = (omega arith, (omega arith, (omega arith, (omega arith, tt))))
level_line (Tree-F.Bool true) p h n = (omega arith, (omega arith, (omega arith, (omega arith, tt))))
level_line (Tree-F.Bool false) p h n = (omega arith, (omega arith, (omega arith, (omega arith, (omega arith, tt)))))
level_line (Tree-F.Num lexeme) p h n = number_line lexeme h
level_line (Tree-F.Str text) p h n = quoted_line text
level_line (Tree-F.Array ts) p h n = list_text_line (map compact ts) (trees_lines ts p n)
level_line (Tree-F.Object d) p h n =
    let all : AreLines (map member_text (map (λ (m : List ℕ × Tree). (m.0, compact m.1)) d.members)) = members_lines d.members p n in
    (omega arith, line_append (joined (map member_text (map (λ (m : List ℕ × Tree). (m.0, compact m.1)) d.members))) (125 ∷ []) (joined_line _ all) (omega arith, tt))

number_here : (x : Tree-F Tree) → HasNumbers (roll-Tree x) → NumberAt x
number_here x h = subst NumberAt (out-roll-Tree x) (every_here-Tree NumberAt (roll-Tree x) h)

numbers_inside : (x : Tree-F Tree) → HasNumbers (roll-Tree x) → AllInTree HasNumbers x
numbers_inside x h =
    let held = every_held-Tree NumberAt (roll-Tree x) h in
    subst (AllInTree HasNumbers) (held.1 ∙ out-roll-Tree x) (in_tree_held HasNumbers held.0)

compact_line : (t : Tree) → LineOf t
compact_line = by_tree_levels LineOf (λ x p h. subst IsLine (sym (fold-roll-Tree (List ℕ) compact_step x)) (level_line x p (number_here x h) (numbers_inside x h)))

pub trees_are_lines : (t : Tree) → HasNumbers t → All (λ b. b ≢ 10) (compact t)
trees_are_lines t n = All-from_recursion (λ b. b ≢ 10) (compact t) (compact_line t n)
