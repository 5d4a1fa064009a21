-- What a tree stands for under a key of a schema, where it holds no schema: nothing where it may
-- not stand there.
use Rattle.std.specs.Prelude.{ℕ, Bool, true, false, not, ◌&&◌, ◌||◌, nat_le, if◌then◌else◌}
use Rattle.std.specs.Prelude.{List, [], ◌∷◌, codes, bytes_eq, ℤ, pos, negsuc}
use Rattle.std.specs.Prelude.{Option, None, Some, is_some, option_map, option_and_then}
use Rattle.std.specs.Option.{option_or}
use Rattle.pv_number.specs.WrittenIntegers.{integer}
use Rattle.pv_tree.specs.Parts.{text_at, lexeme_at, flag_at, items_at, members_at}
use Rattle.pv_tree.specs.declared.Tree.{Tree, out-Tree}
use Rattle.pv_tree.specs.declared.Tree.TheOpen.{Tree-F}
use Rattle.pv_tree.specs.declared.Step.{Step}
use Rattle.pv_tree.specs.declared.Step.TheVariants.{Name, Index}
use Rattle.pv_rules.specs.declared.AliasRule.{AliasRule}
use Rattle.pv_rules.specs.declared.ExtraBehavior.{ExtraBehavior}
use Rattle.pv_rules.specs.declared.ExtraBehavior.TheVariants as behavior
use Rattle.pv_rules.specs.declared.OnError.{OnError}
use Rattle.pv_rules.specs.declared.OnError.TheVariants as on_error
use Rattle.pv_rules.specs.declared.Literal.{Literal}
use Rattle.pv_rules.specs.declared.Literal.TheVariants as literal
use Rattle.pv_rules.specs.declared.EnumMember.{EnumMember}
use Rattle.pv_rules.specs.declared.SubType.{SubType}
use Rattle.pv_rules.specs.declared.SubType.TheVariants as sub_type
use Rattle.pv_rules.specs.declared.UnionMode.{UnionMode}
use Rattle.pv_rules.specs.declared.UnionMode.TheVariants as union_mode
use Rattle.pv_rules.specs.Members.{are_members}
use Rattle.pv_schema_values.specs.declared.value_kind.ValueKind.{ValueKind}
use Rattle.pv_schema_values.specs.declared.value_kind.ValueKind.TheVariants as value

-- a text
unfoldable pub text_of : Tree → Option (List ℕ)
text_of t = text_at (out-Tree t)

-- a flag
unfoldable pub flag_of : Tree → Option Bool
flag_of t = flag_at (out-Tree t)

-- an integer of 128 bits that is written without a point and an exponent
unfoldable pub int_of : Tree → Option ℤ
int_of t = option_and_then integer (lexeme_at (out-Tree t))

-- a number from `least` to `most`
abbrev pub natural_within : ℕ → ℕ → Option ℤ → Option ℕ
natural_within least most None = None
natural_within least most (Some (pos n)) =
    if nat_le least n && nat_le n most then Some n else None
natural_within least most (Some (negsuc n)) = None

-- a count: an integer from 0 to 4,294,967,295
unfoldable pub count_of : Tree → Option ℕ
count_of t = natural_within 0 4294967295 (int_of t)

-- an integer, where it is at least 1
abbrev pub positive : Option ℤ → Option ℤ
positive None = None
positive (Some (pos n)) = if nat_le 1 n then Some (pos n) else None
positive (Some (negsuc n)) = None

-- an integer of at least 1
unfoldable pub positive_of : Tree → Option ℤ
positive_of t = positive (int_of t)

-- a version of UUIDs: from 1 to 8
unfoldable pub version_of : Tree → Option ℕ
version_of t = natural_within 1 8 (int_of t)

-- whether there is a flag, and it is false
abbrev pub is_false : Option Bool → Bool
is_false None = false
is_false (Some b) = not b

-- whether there is a flag, and it is true
abbrev pub is_true : Option Bool → Bool
is_true None = false
is_true (Some b) = b

-- whether there is a text, and it is this word
abbrev pub is_word : List ℕ → Option (List ℕ) → Bool
is_word word None = false
is_word word (Some text) = bytes_eq text word

-- the type that `int` and `str` name
abbrev pub sub_type_by : Option (List ℕ) → Option SubType
sub_type_by None = None
sub_type_by (Some text) =
    if bytes_eq text (codes "int")
    then Some sub_type.Int
    else (if bytes_eq text (codes "str") then Some sub_type.Text else None)

-- the type that a text names
unfoldable pub sub_type_of : Tree → Option SubType
sub_type_of t = sub_type_by (text_of t)

-- what an extra key may be
abbrev pub extra_behavior_by : Option (List ℕ) → Option ExtraBehavior
extra_behavior_by None = None
extra_behavior_by (Some text) =
    if bytes_eq text (codes "ignore")
    then Some behavior.Ignore
    else (if bytes_eq text (codes "allow")
    then Some behavior.Allow
    else (if bytes_eq text (codes "forbid") then Some behavior.Forbid else None))

-- what `ignore`, `allow` and `forbid` name
unfoldable pub extra_behavior_of : Tree → Option ExtraBehavior
extra_behavior_of t = extra_behavior_by (text_of t)

-- what is done on an error, where there is a text
abbrev pub on_error_by : Option (List ℕ) → Option OnError
on_error_by None = None
on_error_by (Some text) =
    if bytes_eq text (codes "raise")
    then Some on_error.Raise
    else (if bytes_eq text (codes "default") then Some on_error.Default else None)

-- what `raise` and `default` name
unfoldable pub on_error_of : Tree → Option OnError
on_error_of t = on_error_by (text_of t)

-- how a union takes one of its choices, where there is a text
abbrev pub union_mode_by : Option (List ℕ) → Option UnionMode
union_mode_by None = None
union_mode_by (Some text) =
    if bytes_eq text (codes "smart")
    then Some union_mode.Smart
    else (if bytes_eq text (codes "left_to_right") then Some union_mode.LeftToRight else None)

-- what `smart` and `left_to_right` name
unfoldable pub union_mode_of : Tree → Option UnionMode
union_mode_of t = union_mode_by (text_of t)

-- the name of a function, by the member that says its type and by the one that names it
abbrev pub function_by : List ℕ × Tree → List ℕ × Tree → Option (List ℕ)
function_by kind name =
    if bytes_eq kind.0 (codes "type")
    && (is_word (codes "no-info") (text_of kind.1) && bytes_eq name.0 (codes "function"))
    then text_of name.1
    else None

-- the same of members, where these are two, in either order
abbrev pub function_in : Option (List (List ℕ × Tree)) → Option (List ℕ)
function_in None = None
function_in (Some []) = None
function_in (Some (m ∷ [])) = None
function_in (Some (m ∷ n ∷ [])) = option_or (function_by m n) (function_by n m)
function_in (Some (m ∷ n ∷ o ∷ ms)) = None

-- a function: an object of the type `no-info` and the name, and of nothing else
unfoldable pub function_of : Tree → Option (List ℕ)
function_of t = function_in (members_at (out-Tree t))

-- whether there is a text, and it says when instances of a model are validated again
abbrev pub is_revalidation : Option (List ℕ) → Bool
is_revalidation None = false
is_revalidation (Some text) =
    bytes_eq text (codes "always")
    || (bytes_eq text (codes "never") || bytes_eq text (codes "subclass-instances"))

-- whether there is a list, and it is empty
abbrev pub is_empty_list : Option (List Tree) → Bool
is_empty_list None = false
is_empty_list (Some []) = true
is_empty_list (Some (t ∷ ts)) = false

-- one more value before others, where all are there
abbrev pub put_first : {Y : Type 0} → Option Y → Option (List Y) → Option (List Y)
put_first None ys = None
put_first (Some y) None = None
put_first (Some y) (Some ys) = Some (y ∷ ys)

-- all that the items stand for, where each stands for something
abbrev pub all_of : {X Y : Type 0} → (X → Option Y) → List X → Option (List Y)
all_of f [] = Some []
all_of f (x ∷ xs) = put_first (f x) (all_of f xs)

-- the same of one item or more
abbrev pub some_of : {X Y : Type 0} → (X → Option Y) → List X → Option (List Y)
some_of f [] = None
some_of f (x ∷ xs) = put_first (f x) (all_of f xs)

-- the same, where there are items
abbrev pub some_in : {Y : Type 0} → (Tree → Option Y) → Option (List Tree) → Option (List Y)
some_in f None = None
some_in f (Some ts) = some_of f ts

-- a list of texts that is not empty
unfoldable pub texts_of : Tree → Option (List (List ℕ))
texts_of t = some_in text_of (items_at (out-Tree t))

-- a later step of a path: a text or a count
unfoldable pub step_of : Tree → Option Step
step_of t = option_or (option_map Name (text_of t)) (option_map Index (count_of t))

-- the steps of a path by the items of its list, of which the first is a text
abbrev pub path_by : List Tree → Option (List Step)
path_by [] = None
path_by (t ∷ ts) = put_first (option_map Name (text_of t)) (all_of step_of ts)

-- the same, where there are items
abbrev pub path_in : Option (List Tree) → Option (List Step)
path_in None = None
path_in (Some ts) = path_by ts

-- a path: a list of steps, of which the first is a text
unfoldable pub path_of : Tree → Option (List Step)
path_of t = path_in (items_at (out-Tree t))

-- an alias of these paths
abbrev pub alias_to : List (List Step) → AliasRule
alias_to paths = record { paths = paths }

-- an alias by the text that it is, by the path that it is, or else by its paths
abbrev pub alias_by : Option (List ℕ) → Option (List Step) → Option (List (List Step))
    → Option AliasRule
alias_by (Some text) path paths = Some (alias_to ((Name text ∷ []) ∷ []))
alias_by None (Some path) paths = Some (alias_to (path ∷ []))
alias_by None None paths = option_map alias_to paths

-- an alias: a text, a path, or a list of paths that is not empty
unfoldable pub alias_of : Tree → Option AliasRule
alias_of t = alias_by (text_of t) (path_of t) (some_in path_of (items_at (out-Tree t)))

-- one level as a value that a schema names: null, a flag, an int or a text
abbrev pub literal_at : Tree-F Tree → Option Literal
literal_at Tree-F.Null = Some literal.Null
literal_at (Tree-F.Bool b) = Some (literal.Flag b)
literal_at (Tree-F.Num lexeme) = option_map literal.Int (integer lexeme)
literal_at (Tree-F.Str text) = Some (literal.Text text)
literal_at (Tree-F.Array ts) = None
literal_at (Tree-F.Object d) = None

-- a value that a schema names
unfoldable pub literal_of : Tree → Option Literal
literal_of t = literal_at (out-Tree t)

-- a list of nulls, flags, ints and texts that is not empty
unfoldable pub literals_of : Tree → Option (List Literal)
literals_of t = some_in literal_of (items_at (out-Tree t))

-- one level as the value of an enum's member: an int or a text
abbrev pub member_value_at : Tree-F Tree → Option Literal
member_value_at (Tree-F.Num lexeme) = option_map literal.Int (integer lexeme)
member_value_at (Tree-F.Str text) = Some (literal.Text text)
member_value_at x = None

-- the value of an enum's member
unfoldable pub member_value_of : Tree → Option Literal
member_value_of t = member_value_at (out-Tree t)

-- a member, where its name and its value are there
abbrev pub member_by : Option (List ℕ) → Option Literal → Option EnumMember
member_by None value = None
member_by (Some name) None = None
member_by (Some name) (Some value) = Some (record { name = name; value = value })

-- a member by the items of its list, where these are a name and a value
abbrev pub member_in : Option (List Tree) → Option EnumMember
member_in None = None
member_in (Some []) = None
member_in (Some (name ∷ [])) = None
member_in (Some (name ∷ value ∷ [])) = member_by (text_of name) (member_value_of value)
member_in (Some (name ∷ value ∷ more ∷ ts)) = None

-- a member: a pair of a name and a value
unfoldable pub member_of : Tree → Option EnumMember
member_of t = member_in (items_at (out-Tree t))

-- members, where no name stands twice, and no value
abbrev pub where_distinct : Option (List EnumMember) → Option (List EnumMember)
where_distinct None = None
where_distinct (Some ms) = if are_members ms then Some ms else None

-- the members of an enum: one pair or more, names distinct, values distinct
unfoldable pub members_of : Tree → Option (List EnumMember)
members_of t = where_distinct (some_in member_of (items_at (out-Tree t)))

-- whether a tree may stand for a value of this kind
unfoldable pub is_value : ValueKind → Tree → Bool
is_value value.Anything t = true
is_value value.Text t = is_some (text_of t)
is_value value.Flag t = is_some (flag_of t)
is_value value.False t = is_false (flag_of t)
is_value value.True t = is_true (flag_of t)
is_value value.Count t = is_some (count_of t)
is_value value.Int t = is_some (int_of t)
is_value value.AtLeastOne t = is_some (positive_of t)
is_value value.Version t = is_some (version_of t)
is_value value.Engine t = is_word (codes "rust-regex") (text_of t)
is_value value.SubType t = is_some (sub_type_of t)
is_value value.Texts t = is_some (texts_of t)
is_value value.Literals t = is_some (literals_of t)
is_value value.Members t = is_some (members_of t)
is_value value.ExtraBehavior t = is_some (extra_behavior_of t)
is_value value.OnError t = is_some (on_error_of t)
is_value value.Revalidation t = is_revalidation (text_of t)
is_value value.EmptyList t = is_empty_list (items_at (out-Tree t))
is_value value.Alias t = is_some (alias_of t)
is_value value.UnionMode t = is_some (union_mode_of t)
is_value value.Function t = is_some (function_of t)
