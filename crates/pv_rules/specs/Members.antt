-- What the members of an enum have to be: distinct, and of its type.
use Rattle.std.specs.Prelude.{ℕ, ℤ, Bool, true, false, not, ◌&&◌, if◌then◌else◌, bytes_eq}
use Rattle.std.specs.Prelude.{List, [], ◌∷◌}
use Rattle.std.specs.List.{list_any}
use Rattle.std.specs.Ordering.{int_eq}
use Rattle.pv_rules.specs.declared.literal.EnumMember.{EnumMember}
use Rattle.pv_rules.specs.declared.literal.Literal.{Literal}
use Rattle.pv_rules.specs.declared.literal.Literal.TheVariants as literal
use Rattle.pv_rules.specs.declared.scalar_rule.SubType.{SubType}
use Rattle.pv_rules.specs.declared.scalar_rule.SubType.TheVariants as sub_type

-- no two of them are equal
abbrev pub are_distinct : {X : Type 0} → (X → X → Bool) → List X → Bool
are_distinct eq [] = true
are_distinct eq (x ∷ xs) = not (list_any (eq x) xs) && are_distinct eq xs

-- the names of the members
abbrev pub names_in : List EnumMember → List (List ℕ)
names_in [] = []
names_in (m ∷ ms) = m.name ∷ names_in ms

-- an int before others, where the value is one
abbrev pub int_first : Literal → List ℤ → List ℤ
int_first (literal.Int n) ns = n ∷ ns
int_first l ns = ns

-- the ints among the values of the members
abbrev pub ints_in : List EnumMember → List ℤ
ints_in [] = []
ints_in (m ∷ ms) = int_first m.value (ints_in ms)

-- a text before others, where the value is one
abbrev pub text_first : Literal → List (List ℕ) → List (List ℕ)
text_first (literal.Text text) ts = text ∷ ts
text_first l ts = ts

-- the texts among the values of the members
abbrev pub texts_in : List EnumMember → List (List ℕ)
texts_in [] = []
texts_in (m ∷ ms) = text_first m.value (texts_in ms)

-- no name stands twice, and no value
unfoldable pub are_members : List EnumMember → Bool
are_members ms =
    are_distinct bytes_eq (names_in ms)
    && (are_distinct int_eq (ints_in ms) && are_distinct bytes_eq (texts_in ms))

-- whether a value is of a type
abbrev pub is_of : SubType → Literal → Bool
is_of sub_type.Int (literal.Int n) = true
is_of sub_type.Text (literal.Text t) = true
is_of s l = false

-- whether the values of all members are
abbrev pub all_are_of : SubType → List EnumMember → Bool
all_are_of s [] = true
all_are_of s (m ∷ ms) = if is_of s m.value then all_are_of s ms else false
