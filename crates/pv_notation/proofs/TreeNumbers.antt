-- The lexemes of a tree are numbers where its own level's is, and those of each tree inside.
use Rattle.std.proofs.Common.{◌≡◌, ℕ, Bool, List, refl, sym, ap, ◌∙◌, subst, All}
use Rattle.std.proofs.lemmas.List.Elements.{recursion_from_All}
use Rattle.pv_number.specs.Grammar.{IsNumber}
use Rattle.pv_tree.specs.Names.{Distinct, HasDistinctNames, same_distinct}
use Rattle.pv_tree.specs.formers.member_row.MemberRow.{before}
use Rattle.pv_tree.specs.declared.Tree.{Tree, map-Tree}
use Rattle.pv_tree.specs.declared.Tree.TheVariants as tree
use Rattle.pv_tree.specs.declared.Tree.TheVariants.{rolls-Null, rolls-Bool, rolls-Num, rolls-Str, rolls-Array, rolls-Object}
use Rattle.pv_tree.specs.declared.Tree.TheOpen.{Tree-F}
use Rattle.pv_tree.specs.declared.Tree.TheViews.{roll-Tree}
use Rattle.pv_tree.specs.declared.Tree.TheFolds.{every_made-Tree}
use Rattle.pv_notation.specs.Numbers.{NumberAt, HasNumbers}
use Rattle.pv_notation.proofs.Inside.{AllInTree}
use Rattle.pv_notation.proofs.Holding.{Held, all_hold, named_hold}

abbrev HeldLevel : Tree-F Tree → Type 0
HeldLevel x = (y : Tree-F (Held HasNumbers)) × (map-Tree (Held HasNumbers) Tree (λ e. e.0) y ≡ x)

inside_hold : (x : Tree-F Tree) → AllInTree HasNumbers x → HeldLevel x
inside_hold Tree-F.Null h = (Tree-F.Null, refl)
inside_hold (Tree-F.Bool b) h = (Tree-F.Bool b, refl)
inside_hold (Tree-F.Num lexeme) h = (Tree-F.Num lexeme, refl)
inside_hold (Tree-F.Str text) h = (Tree-F.Str text, refl)
inside_hold (Tree-F.Array ts) h = let k = all_hold HasNumbers ts h in (Tree-F.Array k.0, ap Tree-F.Array k.1)
inside_hold (Tree-F.Object d) h =
    let k = named_hold HasNumbers d.members h in
    let o : Distinct (Held HasNumbers) = record { members = k.0; distinct = before (λ e. e.0) k.0 (subst HasDistinctNames (sym k.1) d.distinct) } in
    (Tree-F.Object o, ap Tree-F.Object (same_distinct _ d k.1))

numbers_of : (t u : Tree) (x : Tree-F Tree) → roll-Tree x ≡ u → t ≡ u → AllInTree HasNumbers x → NumberAt x → HasNumbers t
numbers_of t u x r e h i = let k = inside_hold x h in subst HasNumbers (r ∙ sym e) (every_made-Tree NumberAt x k.0 k.1 i)

pub numbers_null : (t : Tree) → t ≡ tree.Null → HasNumbers t
numbers_null t e = numbers_of t tree.Null Tree-F.Null rolls-Null e tt tt

pub numbers_bool : (t : Tree) (b : Bool) → t ≡ tree.Bool b → HasNumbers t
numbers_bool t b e = numbers_of t (tree.Bool b) (Tree-F.Bool b) (rolls-Bool b) e tt tt

pub numbers_num : (t : Tree) (lexeme bytes : List ℕ) → t ≡ tree.Num lexeme → bytes ≡ lexeme → IsNumber bytes → HasNumbers t
numbers_num t lexeme bytes e f n = numbers_of t (tree.Num lexeme) (Tree-F.Num lexeme) (rolls-Num lexeme) e tt (subst IsNumber f n)

pub numbers_str : (t : Tree) (text : List ℕ) → t ≡ tree.Str text → HasNumbers t
numbers_str t text e = numbers_of t (tree.Str text) (Tree-F.Str text) (rolls-Str text) e tt tt

pub numbers_array : (t : Tree) (ts : List Tree) → t ≡ tree.Array ts → All HasNumbers ts → HasNumbers t
numbers_array t ts e h = numbers_of t (tree.Array ts) (Tree-F.Array ts) (rolls-Array ts) e (recursion_from_All HasNumbers ts h) tt

pub numbers_object : (t : Tree) (d : Distinct Tree) → t ≡ tree.Object d → All (λ m. HasNumbers m.1) d.members → HasNumbers t
numbers_object t d e h = numbers_of t (tree.Object d) (Tree-F.Object d) (rolls-Object d) e (recursion_from_All (λ (m : List ℕ × Tree). HasNumbers m.1) d.members h) tt

pub ruleset tree_numbers = (numbers_null, numbers_bool, numbers_str, numbers_array, numbers_object)
