-- The order of tokens: first by kind, then by number, then by two texts.
use Rattle.std.specs.Prelude.{ℕ, ℤ, pos, Bool, true, false, List, [], ◌∷◌}
use Rattle.std.specs.Prelude.{Option, None, Some}
use Rattle.std.specs.declared.cmp.Ordering.{Ordering}
use Rattle.std.specs.Ordering.{nat_cmp, on, then_cmp}
use Rattle.std.specs.Cmp.Lexicographic.{slice_cmp}
use Rattle.pv_number.specs.ExactNumber.{Number, number}
use Rattle.pv_number.specs.NumberEquality.{number_cmp, int_number}
use Rattle.pv_tree.specs.declared.AtomKind.{AtomKind}
use Rattle.pv_tree.specs.declared.AtomKind.TheVariants.{Uuid, Url, Date, Time, DateTime, Decimal}
use Rattle.pv_distinct.specs.declared.token.Token.{Token}
use Rattle.pv_distinct.specs.declared.token.Token.TheVariants as token

-- the number of a token's kind; ints and lexemes are of one kind
abbrev pub token_kind : Token → ℕ
token_kind token.None = 0
token_kind (token.Int n) = 1
token_kind (token.Lexeme l) = 1
token_kind (token.Str t) = 2
token_kind (token.Bytes t) = 3
token_kind (token.Atom k t) = 4
token_kind (token.Enum c n) = 5
token_kind token.List = 6
token_kind token.Tuple = 7
token_kind token.Set = 8
token_kind token.Dict = 9
token_kind (token.Model c) = 10
token_kind (token.Root c) = 11
token_kind (token.Name n) = 12
token_kind token.Open = 13
token_kind token.End = 14

-- whether parts follow, and a mark behind them
abbrev pub opens : Token → Bool
opens (token.Enum c n) = true
opens token.List = true
opens token.Tuple = true
opens token.Set = true
opens token.Dict = true
opens (token.Model c) = true
opens (token.Root c) = true
opens t = false

-- the spelling of a lexeme
abbrev pub token_lexeme : Token → Option (List ℕ)
token_lexeme (token.Lexeme l) = Some l
token_lexeme t = None

-- an int; 0 where the token is none
abbrev pub token_int : Token → ℤ
token_int (token.Int n) = n
token_int t = pos 0

-- the exact number of a spelling, or of an int where there is none
abbrev pub number_of : Option (List ℕ) → ℤ → Number
number_of None n = int_number n
number_of (Some l) n = number l

-- the exact number of a token; 0 where it is none
abbrev pub token_number : Token → Number
token_number t = number_of (token_lexeme t) (token_int t)

-- what tells the kinds of atoms apart
abbrev pub atom_mark : AtomKind → List ℕ
atom_mark Uuid = 0 ∷ []
atom_mark Url = 1 ∷ []
atom_mark Date = 2 ∷ []
atom_mark Time = 3 ∷ []
atom_mark DateTime = 4 ∷ []
atom_mark Decimal = 5 ∷ []

-- the first text of a token; empty where it has none
abbrev pub token_first : Token → List ℕ
token_first (token.Str t) = t
token_first (token.Bytes t) = t
token_first (token.Atom k t) = t
token_first (token.Enum c n) = c
token_first (token.Model c) = c
token_first (token.Root c) = c
token_first (token.Name n) = n
token_first t = []

-- the second text of a token; empty where it has none
abbrev pub token_second : Token → List ℕ
token_second (token.Atom k t) = atom_mark k
token_second (token.Enum c n) = n
token_second t = []

-- texts compare byte by byte
abbrev pub bytes_cmp : List ℕ → List ℕ → Ordering
bytes_cmp = slice_cmp nat_cmp

-- tokens of one kind compare by number, and then by their texts
abbrev pub contents_cmp : Token → Token → Ordering
contents_cmp =
    then_cmp (on token_number number_cmp)
    (then_cmp (on token_first bytes_cmp) (on token_second bytes_cmp))

-- tokens compare by kind, and then by what they hold
unfoldable pub token_cmp : Token → Token → Ordering
token_cmp = then_cmp (on token_kind nat_cmp) contents_cmp
