-- Values that a schema names, and the trees that are the same: of the same kind and content,
-- where a number has to be written without a point and an exponent.
use Rattle.std.specs.Prelude.{ℕ, Bool, true, false, if◌then◌else◌, bytes_eq, List, [], ◌∷◌, ◌++◌, map, codes, Option, None, Some, option_map}
use Rattle.std.specs.List.{list_any, find}
use Rattle.std.specs.Fmt.{signed_decimal}
use Rattle.std.specs.Ordering.{int_eq}
use Rattle.pv_number.specs.WrittenIntegers.{integer}
use Rattle.pv_tree.specs.declared.Tree.{Tree, out-Tree}
use Rattle.pv_tree.specs.declared.Tree.TheOpen.{Tree-F}
use Rattle.pv_rules.specs.declared.Literal.{Literal}
use Rattle.pv_rules.specs.declared.Literal.TheVariants as literal
use Rattle.pv_rules.specs.declared.EnumMember.{EnumMember}

-- two flags that are the same
abbrev pub bool_same : Bool → Bool → Bool
bool_same true b = b
bool_same false true = false
bool_same false false = true

-- two values that are the same
abbrev pub literal_same : Literal → Literal → Bool
literal_same literal.Null literal.Null = true
literal_same (literal.Flag a) (literal.Flag b) = bool_same a b
literal_same (literal.Int m) (literal.Int n) = int_eq m n
literal_same (literal.Text s) (literal.Text t) = bytes_eq s t
literal_same _ _ = false

-- the value that a tree is, by one level of it
abbrev pub literal_at : Tree-F Tree → Option Literal
literal_at Tree-F.Null = Some literal.Null
literal_at (Tree-F.Bool b) = Some (literal.Flag b)
literal_at (Tree-F.Num lexeme) = option_map literal.Int (integer lexeme)
literal_at (Tree-F.Str text) = Some (literal.Text text)
literal_at (Tree-F.Array ts) = None
literal_at (Tree-F.Object ms) = None

-- of a tree
unfoldable pub literal_of : Tree → Option Literal
literal_of tree = literal_at (out-Tree tree)

-- a value that is one of these
abbrev pub is_among : List Literal → Option Literal → Bool
is_among values (Some l) = list_any (λ v. literal_same v l) values
is_among values None = false

-- the value of a member
abbrev pub enum_value : EnumMember → Literal
enum_value m = m.value

-- the first member with this value
abbrev pub member_with : List EnumMember → Literal → Option EnumMember
member_with members l = find (λ m. literal_same m.value l) members

-- texts in single quotes as they are
abbrev pub in_quotes : List ℕ → List ℕ
in_quotes text = 39 ∷ text ++ 39 ∷ []

-- a value in a message
abbrev pub literal_text : Literal → List ℕ
literal_text literal.Null = codes "None"
literal_text (literal.Flag b) = if b then codes "True" else codes "False"
literal_text (literal.Int n) = signed_decimal n
literal_text (literal.Text text) = in_quotes text

-- what stands before a text of a list, other than the first, by the texts behind it
abbrev pub separator : List (List ℕ) → List ℕ
separator [] = codes " or "
separator (x ∷ xs) = codes ", "

-- the texts behind the first
abbrev pub listed_on : List (List ℕ) → List ℕ
listed_on [] = []
listed_on (x ∷ xs) = separator xs ++ (x ++ listed_on xs)

-- "a", "a or b", "a, b or c"
abbrev pub listed : List (List ℕ) → List ℕ
listed [] = []
listed (x ∷ xs) = x ++ listed_on xs

-- values as a list for a reader
unfoldable pub expected_text : List Literal → List ℕ
expected_text values = listed (map literal_text values)
