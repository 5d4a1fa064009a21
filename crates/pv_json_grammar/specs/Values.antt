-- Reading of a value and of a document, by the reading of what they hold.
use Rattle.std.specs.Prelude.{ℕ, zero, suc, ◌+◌, ◌==◌, true, false, if◌then◌else◌, Result, Ok, Err}
use Rattle.std.specs.Prelude.{List, [], ◌∷◌, ◌++◌, length, drop, codes}
use Rattle.pv_number.specs.Scanning.{◌>>=◌, begins}
use Rattle.pv_tree.specs.declared.Tree.{Tree}
use Rattle.pv_tree.specs.declared.Tree.TheVariants as tree
use Rattle.pv_tree.specs.Merging.{object_of}
use Rattle.pv_json_grammar.specs.Bytes.{quote, comma, colon, open_bracket, close_bracket}
use Rattle.pv_json_grammar.specs.Bytes.{open_brace, close_brace, lower_n, lower_t, lower_f}
use Rattle.pv_json_grammar.specs.Reading.{Reads, past, after, skip, number}
use Rattle.pv_json_grammar.specs.Strings.{string}

-- Several things with commas between them, up to a closing byte. Of them a tree is made.
module _ {A : Type 0} (inner : List ℕ → Reads A) (close : ℕ) (finish : List A → Tree) where
  -- behind one of them and white space
  abbrev pub behind : (List A → List ℕ → Reads Tree) → List A → List ℕ → Reads Tree
  behind more all [] = Err 0
  behind more all (b ∷ bs) =
      if b == comma then more all bs
      else (if b == close then Ok (finish all, bs) else Err (length bs + 1))

  -- Those from here on, behind those that were read. Each takes a byte, so no more come than there
  -- are bytes.
  unfoldable pub several : ℕ → List A → List ℕ → Reads Tree
  several zero all bs = Err (length bs)
  several (suc k) all bs = inner bs >>= λ x. behind (several k) (all ++ x.0 ∷ []) (skip x.1)

  -- behind an opening byte and white space
  abbrev pub group : List ℕ → Reads Tree
  group bs =
      if begins close bs then Ok (finish [], drop 1 bs) else several (length bs) [] bs

-- the object of members as they were read
abbrev pub object_tree : List (List ℕ × Tree) → Tree
object_tree ms = tree.Object (object_of ms)

module _ (inner : List ℕ → Reads Tree) where
  -- the items from here on, behind those that were read
  abbrev pub items : ℕ → List Tree → List ℕ → Reads Tree
  items = several inner close_bracket tree.Array

  -- behind the opening bracket
  unfoldable pub array : List ℕ → Reads Tree
  array bs = group inner close_bracket tree.Array (skip bs)

  -- a name, its colon and its value
  unfoldable pub member : List ℕ → Reads (List ℕ × Tree)
  member bs =
      past quote (skip bs) >>= λ q.
      string q >>= λ name.
      past colon (skip name.1) >>= λ r.
      inner r >>= λ v. Ok ((name.0, v.0), v.1)

  -- the members from here on, behind those that were read
  abbrev pub members : ℕ → List (List ℕ × Tree) → List ℕ → Reads Tree
  members = several member close_brace object_tree

  -- behind the opening brace
  unfoldable pub object : List ℕ → Reads Tree
  object bs = group member close_brace object_tree (skip bs)

-- a word and the tree that it stands for
abbrev pub word : List ℕ → Tree → List ℕ → Reads Tree
word w t bs = after w bs >>= λ r. Ok (t, r)

-- a value, of which arrays and objects are read by these
abbrev pub value_by : (List ℕ → Reads Tree) → (List ℕ → Reads Tree) → List ℕ → Reads Tree
value_by arrays objects [] = Err 0
value_by arrays objects (b ∷ bs) =
    if b == lower_n then word (codes "null") tree.Null (b ∷ bs)
    else (if b == lower_t then word (codes "true") (tree.Bool true) (b ∷ bs)
    else (if b == lower_f then word (codes "false") (tree.Bool false) (b ∷ bs)
    else (if b == quote then string bs >>= (λ x. Ok (tree.Str x.0, x.1))
    else (if b == open_bracket then arrays (b ∷ bs)
    else (if b == open_brace then objects (b ∷ bs)
    else number (b ∷ bs) >>= (λ x. Ok (tree.Num x.0, x.1)))))))

-- a value in which at most so many containers nest
unfoldable pub value : ℕ → List ℕ → Reads Tree
value zero bs = value_by (λ all. Err (length all)) (λ all. Err (length all)) (skip bs)
value (suc n) bs =
    value_by (λ all. array (value n) (drop 1 all)) (λ all. object (value n) (drop 1 all)) (skip bs)

-- a value with white space round it and nothing else
unfoldable pub document : ℕ → List ℕ → Result Tree ℕ
document n bs =
    value n bs >>= λ x. (if length (skip x.1) == 0 then Ok x.0 else Err (length (skip x.1)))
