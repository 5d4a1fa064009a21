-- Trees and values made of others.
use Rattle.std.proofs.Common.{◌≡◌, ℕ, List, [], ◌∷◌, map, refl, All}
use Rattle.std.proofs.lemmas.List.Elements.{All-from_recursion}
use Rattle.std.specs.List.{AllByRecursion}
use Rattle.pv_tree.specs.declared.Tree.{Tree}
use Rattle.pv_tree.specs.declared.Tree.TheVariants as tree
use Rattle.pv_tree.specs.declared.Value.{Value}
use Rattle.pv_notation.specs.Numbers.{HasNumbers, IsSound}
use Rattle.pv_notation.proofs.TreeNumbers.{numbers_str, numbers_array}
use Rattle.pv_notation.proofs.Sound.{sound_tuple}
use Rattle.pv_shipped.specs.Shipped.{array_of, twice}

one_by_one : (texts : List (List ℕ)) → AllByRecursion HasNumbers (map tree.Str texts)
one_by_one [] = tt
one_by_one (text ∷ texts) = (numbers_str (tree.Str text) text refl, one_by_one texts)

-- none of them has a lexeme
pub strings_have_numbers : (ts : List Tree) (texts : List (List ℕ)) → ts ≡ map tree.Str texts → All HasNumbers ts
strings_have_numbers ts texts e = rw e (All-from_recursion HasNumbers (map tree.Str texts) (one_by_one texts))

-- an array of one tree
pub array_has_numbers : (t u : Tree) → u ≡ array_of t → HasNumbers t → HasNumbers u
array_has_numbers t u e h = numbers_array u (t ∷ []) e (All-from_recursion HasNumbers (t ∷ []) (h, tt))

-- a tuple of a value and again the value
pub twice_is_sound : (v w : Value) → w ≡ twice v → IsSound v → IsSound w
twice_is_sound v w e h = sound_tuple w (v ∷ v ∷ []) e (All-from_recursion IsSound (v ∷ v ∷ []) (h, (h, tt)))
