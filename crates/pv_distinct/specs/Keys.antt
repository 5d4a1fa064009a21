-- The key of a value: the tokens by which it is found.
-- Two values are the same where their keys compare equal.
use Rattle.std.specs.Prelude.{ℕ, pos, if◌then◌else◌, List, [], ◌∷◌, ◌++◌, map, fold}
use Rattle.std.specs.declared.cmp.Ordering.{Ordering}
use Rattle.std.specs.Cmp.Lexicographic.{slice_cmp}
use Rattle.std.specs.BTreeSet.{insert_key}
use Rattle.pv_tree.specs.declared.Value.{Value, fold-Value}
use Rattle.pv_tree.specs.declared.Value.TheViews.{out-Value}
use Rattle.pv_tree.specs.declared.Value.TheOpen.{Value-F}
use Rattle.pv_distinct.specs.declared.token.Token.{Token}
use Rattle.pv_distinct.specs.declared.token.Token.TheVariants as token
use Rattle.pv_distinct.specs.Tokens.{token_cmp}

-- tokens in order
abbrev pub KeyTokens : Type 0
KeyTokens = List Token

-- keys compare token by token
abbrev pub key_cmp : KeyTokens → KeyTokens → Ordering
key_cmp = slice_cmp token_cmp

-- keys one behind another
abbrev pub joined : List KeyTokens → KeyTokens
joined [] = []
joined (k ∷ ks) = k ++ joined ks

-- the keys in their order, of equal ones the first
abbrev pub ordered : List KeyTokens → List KeyTokens
ordered ks = fold (insert_key key_cmp) [] ks

-- the key of an item, behind which an empty name stands
abbrev pub item_key : KeyTokens → KeyTokens
item_key k = k ++ token.Name [] ∷ []

-- the keys of an entry's key and value, behind which an empty name stands
abbrev pub entry_key : KeyTokens × KeyTokens → KeyTokens
entry_key e = (e.0 ++ e.1) ++ token.Name [] ∷ []

-- the key of a field's value, behind which its name stands
abbrev pub field_key : List ℕ × KeyTokens → KeyTokens
field_key f = f.1 ++ token.Name f.0 ∷ []

-- the keys of items whose order does not matter, between marks
abbrev pub set_key : List KeyTokens → KeyTokens
set_key ks = token.Open ∷ (joined (ordered ks) ++ token.End ∷ [])

-- one level, with the key of each value inside in its place
abbrev pub key_at : Value-F KeyTokens → KeyTokens
key_at Value-F.None = token.None ∷ []
key_at (Value-F.Bool b) = token.Int (pos (if b then 1 else 0)) ∷ []
key_at (Value-F.Int n) = token.Int n ∷ []
key_at (Value-F.Lexeme lexeme) = token.Lexeme lexeme ∷ []
key_at (Value-F.Str text) = token.Str text ∷ []
key_at (Value-F.Bytes bytes) = token.Bytes bytes ∷ []
key_at (Value-F.Atom kind text) = token.Atom kind text ∷ []
key_at (Value-F.Enum cls name k) = token.Enum cls name ∷ (k ++ token.End ∷ [])
key_at (Value-F.List ks) = token.List ∷ (joined ks ++ token.End ∷ [])
key_at (Value-F.Tuple ks) = token.Tuple ∷ (joined ks ++ token.End ∷ [])
key_at (Value-F.Set ks) = token.Set ∷ (set_key (map item_key ks) ++ token.End ∷ [])
key_at (Value-F.Frozen ks) = token.Set ∷ (set_key (map item_key ks) ++ token.End ∷ [])
key_at (Value-F.Dict es) = token.Dict ∷ (set_key (map entry_key es) ++ token.End ∷ [])
key_at (Value-F.Model cls fs set es) =
    token.Model cls
    ∷ ((set_key (map field_key fs) ++ set_key (map field_key es)) ++ token.End ∷ [])
key_at (Value-F.Root cls k) = token.Root cls ∷ (k ++ token.End ∷ [])

-- of a value
abbrev pub key : Value → KeyTokens
key = fold-Value KeyTokens key_at

-- the first token of a key, by the value's level
abbrev pub start_at : Value-F Value → Token
start_at Value-F.None = token.None
start_at (Value-F.Bool b) = token.Int (pos (if b then 1 else 0))
start_at (Value-F.Int n) = token.Int n
start_at (Value-F.Lexeme lexeme) = token.Lexeme lexeme
start_at (Value-F.Str text) = token.Str text
start_at (Value-F.Bytes bytes) = token.Bytes bytes
start_at (Value-F.Atom kind text) = token.Atom kind text
start_at (Value-F.Enum cls name v) = token.Enum cls name
start_at (Value-F.List vs) = token.List
start_at (Value-F.Tuple vs) = token.Tuple
start_at (Value-F.Set vs) = token.Set
start_at (Value-F.Frozen vs) = token.Set
start_at (Value-F.Dict es) = token.Dict
start_at (Value-F.Model cls fs set es) = token.Model cls
start_at (Value-F.Root cls v) = token.Root cls

-- the same of a value
abbrev pub start : Value → Token
start v = start_at (out-Value v)

-- the keys of the parts of a value, by its level; none of one that holds no others
abbrev pub parts_at : Value-F Value → KeyTokens
parts_at (Value-F.Enum cls name v) = key v
parts_at (Value-F.List vs) = joined (map key vs)
parts_at (Value-F.Tuple vs) = joined (map key vs)
parts_at (Value-F.Set vs) = set_key (map item_key (map key vs))
parts_at (Value-F.Frozen vs) = set_key (map item_key (map key vs))
parts_at (Value-F.Dict es) = set_key (map entry_key (map (λ e. (key e.0, key e.1)) es))
parts_at (Value-F.Model cls fs set es) =
    set_key (map field_key (map (λ f. (f.0, key f.1)) fs))
    ++ set_key (map field_key (map (λ f. (f.0, key f.1)) es))
parts_at (Value-F.Root cls v) = key v
parts_at v = []

-- the same of a value
abbrev pub parts : Value → KeyTokens
parts v = parts_at (out-Value v)
