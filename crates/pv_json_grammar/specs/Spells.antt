-- The grammar of JSON documents (RFC 8259, in UTF-8), apart from the reader: which bytes spell
-- which tree.
use Rattle.std.specs.Prelude.{◌≡◌, ℕ, zero, suc, true, false, IsTrue, List, [], ◌∷◌, ◌++◌, codes}
use Rattle.pv_number.specs.Grammar.{IsNumber}
use Rattle.pv_tree.specs.declared.Tree.{Tree}
use Rattle.pv_tree.specs.declared.Tree.TheVariants as tree
use Rattle.pv_tree.specs.Merging.{object_of}
use Rattle.pv_json_grammar.specs.Bytes.{comma, colon}
use Rattle.pv_json_grammar.specs.Bytes.{open_bracket, close_bracket, open_brace, close_brace}
use Rattle.pv_json_grammar.specs.Reading.{is_blank}
use Rattle.pv_json_grammar.specs.SpelledStrings.{SpellsString}

-- white space
abbrev pub IsBlank : List ℕ → Type 0
IsBlank [] = Unit {0}
IsBlank (b ∷ bs) = IsTrue (is_blank b) × IsBlank bs

-- a value that holds no other
pub data SpellsScalar (bs : List ℕ) (t : Tree) : Type 0 where
  spells_null : bs ≡ codes "null" → t ≡ tree.Null → SpellsScalar bs t
  spells_true : bs ≡ codes "true" → t ≡ tree.Bool true → SpellsScalar bs t
  spells_false : bs ≡ codes "false" → t ≡ tree.Bool false → SpellsScalar bs t
  spells_number : IsNumber bs → t ≡ tree.Num bs → SpellsScalar bs t
  spells_text : (text : List ℕ) → SpellsString bs text → t ≡ tree.Str text → SpellsScalar bs t

-- things that are spelled by S, one after another
module _ {A : Type 0} (S : List ℕ → A → Type 0) where
  -- one with white space round it
  pub record Padded (bs : List ℕ) (x : A) : Type 0 where
    pub lead : List ℕ
    pub text : List ℕ
    pub trail : List ℕ
    pub whole : bs ≡ lead ++ (text ++ trail)
    pub blank_lead : IsBlank lead
    pub spells : S text x
    pub blank_trail : IsBlank trail

  -- one or more, with a comma between two
  abbrev pub Listed : List ℕ → List A → Type 0
  Listed bs [] = ⊥
  Listed bs (x ∷ []) = Padded bs x
  Listed bs (x ∷ y ∷ ys) =
      (first : List ℕ) × (more : List ℕ) × (bs ≡ first ++ comma ∷ more)
      × Padded first x × Listed more (y ∷ ys)

  -- what may stand between two brackets
  abbrev pub Enclosed : List ℕ → List A → Type 0
  Enclosed bs [] = IsBlank bs
  Enclosed bs (x ∷ xs) = Listed bs (x ∷ xs)

-- values that hold values, which are spelled by S
module _ (S : List ℕ → Tree → Type 0) where
  -- a name, a colon and a value
  pub record SpellsMember (bs : List ℕ) (m : List ℕ × Tree) : Type 0 where
    pub name : List ℕ
    pub before : List ℕ
    pub behind : List ℕ
    pub value : List ℕ
    pub whole : bs ≡ name ++ (before ++ colon ∷ (behind ++ value))
    pub spells_name : SpellsString name m.0
    pub blank_before : IsBlank before
    pub blank_behind : IsBlank behind
    pub spells_value : S value m.1

  -- A value. Of an object, a repeated name keeps its first place and takes its last value.
  pub data SpellsValue (bs : List ℕ) (t : Tree) : Type 0 where
    spells_scalar : SpellsScalar bs t → SpellsValue bs t
    spells_array : (inside : List ℕ) (items : List Tree)
        → bs ≡ open_bracket ∷ inside ++ close_bracket ∷ [] → Enclosed S inside items
        → t ≡ tree.Array items → SpellsValue bs t
    spells_object : (inside : List ℕ) (members : List (List ℕ × Tree))
        → bs ≡ open_brace ∷ inside ++ close_brace ∷ [] → Enclosed SpellsMember inside members
        → t ≡ tree.Object (object_of members) → SpellsValue bs t

-- a value in which at most so many containers nest
unfoldable pub Spells : ℕ → List ℕ → Tree → Type 0
Spells zero bs t = SpellsScalar bs t
Spells (suc n) bs t = SpellsValue (Spells n) bs t

-- a document: a value with white space round it
abbrev pub SpellsDocument : ℕ → List ℕ → Tree → Type 0
SpellsDocument n bs t = Padded (Spells n) bs t
