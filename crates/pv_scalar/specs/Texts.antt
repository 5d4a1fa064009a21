-- Texts, and the bytes of texts. The lengths of texts count characters, those of bytes count bytes.
use Rattle.std.specs.Prelude.{ℕ, nat_le, if◌then◌else◌, List, length, chars, Option, None, Some, unwrap_or, Err}
use Rattle.std.specs.Option.{option_or}
use Rattle.std.specs.Str.{trim}
use Rattle.pv_tree.specs.declared.Tree.{Tree, out-Tree}
use Rattle.pv_tree.specs.Parts.{text_at}
use Rattle.pv_rules.specs.declared.StrRule.{StrRule}
use Rattle.pv_rules.specs.declared.BytesRule.{BytesRule}
use Rattle.pv_rules.specs.declared.Settings.{Settings}
use Rattle.pv_tree.specs.declared.Value.{Value}
use Rattle.pv_tree.specs.declared.Value.TheVariants as value
use Rattle.pv_fault.specs.declared.Grade.TheVariants.{Strict, Exact}
use Rattle.pv_fault.specs.declared.Kind.{Kind}
use Rattle.pv_fault.specs.declared.Kind.TheVariants as kind
use Rattle.pv_formats.specs.Patterns.{matches}
use Rattle.pv_scalar.specs.Tests.{Graded, with_fault, unless, ◌orelse◌}

-- the text that a tree is, where it is one
abbrev pub text_in : Tree → Option (List ℕ)
text_in tree = text_at (out-Tree tree)

-- what is made of a text, and what any other tree is
abbrev pub of_text : {A : Type 0} → (List ℕ → Graded A) → Kind → Option (List ℕ) → Graded A
of_text f wrong (Some text) = f text
of_text f wrong None = Err wrong

-- how many characters a text has
abbrev pub char_count : List ℕ → ℕ
char_count text = length (chars text)

-- the rule's own key goes before the settings
abbrev pub stripped : StrRule → Settings → List ℕ → List ℕ
stripped rule settings text =
    if unwrap_or rule.strip_whitespace settings.str_strip_whitespace then trim text else text

-- what is wrong with the length of a text; the rule's own keys go before the settings
unfoldable pub length_fault : StrRule → Settings → List ℕ → Option Kind
length_fault rule settings text =
    unless (option_or rule.min_length settings.str_min_length)
    (λ bound. nat_le bound (char_count text)) kind.StringTooShort
    orelse unless (option_or rule.max_length settings.str_max_length)
    (λ bound. nat_le (char_count text) bound) kind.StringTooLong

-- what is wrong where a text does not match the pattern
abbrev pub pattern_fault : Option (List ℕ) → List ℕ → Option Kind
pattern_fault pattern text =
    unless pattern (λ p. matches p text) kind.StringPatternMismatch

-- the first test that a text does not pass
unfoldable pub text_fault : StrRule → Settings → List ℕ → Option Kind
text_fault rule settings text =
    length_fault rule settings text orelse pattern_fault rule.pattern text

-- what is wrong with the length of bytes
unfoldable pub bytes_fault : BytesRule → List ℕ → Option Kind
bytes_fault rule bytes =
    unless rule.min_length (λ bound. nat_le bound (length bytes)) kind.BytesTooShort
    orelse unless rule.max_length (λ bound. nat_le (length bytes) bound) kind.BytesTooLong

-- a text as a value; the tests are of the text without the white space
abbrev pub str_in : StrRule → Settings → List ℕ → Graded Value
str_in rule settings text =
    with_fault (text_fault rule settings (stripped rule settings text))
    (value.Str (stripped rule settings text), Exact)

-- the bytes of a text as a value
abbrev pub bytes_in : BytesRule → List ℕ → Graded Value
bytes_in rule text = with_fault (bytes_fault rule text) (value.Bytes text, Strict)
