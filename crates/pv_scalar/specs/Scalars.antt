-- What each scalar gives for a tree.
use Rattle.std.specs.Prelude.{ℕ, Bool, false, if◌then◌else◌, List, map, ℤ, Option, None, Some, option_and_then, Ok, Err, ⊤}
use Rattle.pv_tree.specs.Plain.{plain}
use Rattle.pv_tree.specs.declared.Tree.{Tree, out-Tree}
use Rattle.pv_tree.specs.Parts.{null_at}
use Rattle.pv_tree.specs.declared.Value.{Value}
use Rattle.pv_tree.specs.declared.Value.TheVariants as value
use Rattle.pv_rules.specs.declared.ScalarRule.{ScalarRule}
use Rattle.pv_rules.specs.declared.ScalarRule.TheVariants as rule
use Rattle.pv_rules.specs.declared.SubType.{SubType}
use Rattle.pv_rules.specs.declared.SubType.TheVariants as sub
use Rattle.pv_rules.specs.declared.IntRule.{IntRule}
use Rattle.pv_rules.specs.declared.StrRule.{StrRule}
use Rattle.pv_rules.specs.declared.BytesRule.{BytesRule}
use Rattle.pv_rules.specs.declared.UrlRule.{UrlRule}
use Rattle.pv_rules.specs.declared.EnumRule.{EnumRule}
use Rattle.pv_rules.specs.declared.EnumMember.{EnumMember}
use Rattle.pv_rules.specs.declared.Literal.{Literal}
use Rattle.pv_rules.specs.declared.Literal.TheVariants as literal
use Rattle.pv_rules.specs.declared.Settings.{Settings}
use Rattle.pv_fault.specs.declared.Grade.{Grade}
use Rattle.pv_fault.specs.declared.Grade.TheVariants.{Lax, Strict, Exact}
use Rattle.pv_fault.specs.declared.Kind.TheVariants as kind
use Rattle.pv_fault.specs.declared.Outcome.{Outcome}
use Rattle.pv_formats.specs.Patterns.{IsReadable}
use Rattle.pv_scalar.specs.Tests.{Graded, by_column, made_into, tested, outcome_of}
use Rattle.pv_scalar.specs.Flags.{flag_of}
use Rattle.pv_scalar.specs.Integers.{int_of, int_fault}
use Rattle.pv_scalar.specs.Texts.{text_in, of_text, str_in, bytes_in}
use Rattle.pv_scalar.specs.Literals.{literal_of, is_among, member_with, enum_value, expected_text}
use Rattle.pv_scalar.specs.Formats.{uuid_in, url_in}

-- null, and no other tree
unfoldable pub none_answer : Tree → Graded Value
none_answer tree = if null_at (out-Tree tree) then Ok (value.None, Exact) else Err kind.NoneRequired

-- a flag
unfoldable pub bool_answer : Bool → Tree → Graded Value
bool_answer strict tree = made_into value.Bool (flag_of strict tree)

-- an int
unfoldable pub int_answer : IntRule → Bool → Tree → Graded Value
int_answer rule strict tree = made_into value.Int (tested (int_fault rule) (int_of strict tree))

-- a text
unfoldable pub str_answer : StrRule → Settings → Tree → Graded Value
str_answer rule settings tree = of_text (str_in rule settings) kind.StringType (text_in tree)

-- the bytes of a text
unfoldable pub bytes_answer : BytesRule → Tree → Graded Value
bytes_answer rule tree = of_text (bytes_in rule) kind.BytesType (text_in tree)

-- a UUID
unfoldable pub uuid_answer : Option ℕ → Tree → Graded Value
uuid_answer version tree = of_text (uuid_in version) kind.UuidType (text_in tree)

-- a URL
unfoldable pub url_answer : UrlRule → Tree → Graded Value
url_answer rule tree = of_text (url_in rule) kind.UrlType (text_in tree)

-- one of the values that the schema names
unfoldable pub literal_answer : List Literal → Tree → Graded Value
literal_answer expected tree =
    if is_among expected (literal_of tree) then Ok (plain tree, Exact)
    else Err (kind.LiteralError (expected_text expected))

-- a named value as a value
abbrev pub literal_value : Literal → Value
literal_value literal.Null = value.None
literal_value (literal.Flag b) = value.Bool b
literal_value (literal.Int n) = value.Int n
literal_value (literal.Text text) = value.Str text

-- a member of an enum as a value
abbrev pub member_value : EnumRule → EnumMember → Value
member_value rule m = value.Enum rule.cls m.name (literal_value m.value)

-- the member whose value is this int
abbrev pub int_member : List EnumMember → Graded ℤ → Option EnumMember
int_member members (Ok x) = member_with members (literal.Int x.0)
int_member members (Err kind) = None

-- where the values are ints, what stands for an int stands for a member
abbrev pub lax_member : EnumRule → Option SubType → Tree → Option EnumMember
lax_member rule (Some sub.Int) tree = int_member rule.members (int_of false tree)
lax_member rule (Some sub.Text) tree = None
lax_member rule None tree = None

-- the member, where there is one, else another answer
abbrev pub member_or : EnumRule → Grade → Option EnumMember → Graded Value → Graded Value
member_or rule grade (Some m) answer = Ok (member_value rule m, grade)
member_or rule grade None answer = answer

-- a member of an enum: by its value, and where that is not strict by what stands for its value
unfoldable pub enum_answer : EnumRule → Bool → Tree → Graded Value
enum_answer rule strict tree =
    member_or rule Strict (option_and_then (member_with rule.members) (literal_of tree))
    (member_or rule Lax (by_column strict (lax_member rule rule.sub_type tree) None)
    (Err (kind.Enum (expected_text (map enum_value rule.members)))))

-- what each rule gives
unfoldable pub answer_of : ScalarRule → Settings → Bool → Tree → Graded Value
answer_of rule.Any settings strict tree = Ok (plain tree, Lax)
answer_of rule.None settings strict tree = none_answer tree
answer_of rule.Bool settings strict tree = bool_answer strict tree
answer_of (rule.Int r) settings strict tree = int_answer r strict tree
answer_of (rule.Str r) settings strict tree = str_answer r settings tree
answer_of (rule.Bytes r) settings strict tree = bytes_answer r tree
answer_of (rule.Uuid version) settings strict tree = uuid_answer version tree
answer_of (rule.Url r) settings strict tree = url_answer r tree
answer_of (rule.Literal expected) settings strict tree = literal_answer expected tree
answer_of (rule.Enum r) settings strict tree = enum_answer r strict tree

-- the same as an outcome
unfoldable pub scalar_of : ScalarRule → Settings → Bool → Tree → Outcome
scalar_of rule settings strict tree = outcome_of tree (answer_of rule settings strict tree)

-- the pattern, where there is one, is read by the grammar of patterns
abbrev pub HasReadablePattern : Option (List ℕ) → Type 0
HasReadablePattern None = ⊤
HasReadablePattern (Some pattern) = IsReadable pattern

-- a scalar can be built for the rule, but for want of memory
abbrev pub IsBuildable : ScalarRule → Type 0
IsBuildable rule.Any = ⊤
IsBuildable rule.None = ⊤
IsBuildable rule.Bool = ⊤
IsBuildable (rule.Int r) = ⊤
IsBuildable (rule.Str r) = HasReadablePattern r.pattern
IsBuildable (rule.Bytes r) = ⊤
IsBuildable (rule.Uuid version) = ⊤
IsBuildable (rule.Url r) = ⊤
IsBuildable (rule.Literal expected) = ⊤
IsBuildable (rule.Enum r) = ⊤
