-- Each kind of error: the text of its type, its message, and the keys of its context with the
-- JSON text of what stands at each.
use Rattle.std.specs.Prelude.{ℕ, if◌then◌else◌, ◌==◌, List, [], ◌∷◌, ◌++◌, codes}
use Rattle.std.specs.Fmt.{decimal, signed_decimal}
use Rattle.pv_notation.specs.Strings.{quoted}
use Rattle.pv_fault.specs.declared.kind.Kind.{Kind}
use Rattle.pv_fault.specs.declared.kind.Kind.TheVariants as kind

-- the text of the type, the message, and the keys of the context with the text at each
pub record Printed : Type 0 where
  pub name : List ℕ
  pub message : List ℕ
  pub context : List (List ℕ × List ℕ)

-- a kind without a context
abbrev pub without_context : List ℕ → List ℕ → Printed
without_context name message = record { name = name; message = message; context = [] }

-- a context of one key
abbrev pub about : List ℕ → List ℕ → List ℕ → List ℕ → Printed
about name message key value =
    record { name = name; message = message; context = (key, value) ∷ [] }

-- a count and the word for what it counts, which begins with a space: "1 item", "2 items"
abbrev pub counted : ℕ → List ℕ → List ℕ
counted n word = decimal n ++ (word ++ (if n == 1 then [] else codes "s"))

-- a collection of the wrong length, with what it should have
unfoldable pub sized : List ℕ → List ℕ → List ℕ → List ℕ → ℕ → ℕ → Printed
sized name field_type should_have key bound actual = record {
  name = name;
  message =
      field_type ++ (should_have
      ++ (counted bound (codes " item") ++ (codes " after validation, not " ++ decimal actual)));
  context =
      (codes "field_type", quoted field_type) ∷ (key, decimal bound)
      ∷ (codes "actual_length", decimal actual) ∷ [];
}

-- a tag that no choice has
unfoldable pub tag_unknown : List ℕ → List ℕ → List ℕ → Printed
tag_unknown discriminator tag expected_tags = record {
  name = codes "union_tag_invalid";
  message =
      codes "Input tag '" ++ (tag
      ++ (codes "' found using "
      ++ (discriminator ++ (codes " does not match any of the expected tags: " ++ expected_tags))));
  context =
      (codes "discriminator", quoted discriminator) ∷ (codes "tag", quoted tag)
      ∷ (codes "expected_tags", quoted expected_tags) ∷ [];
}

-- the kinds, in the order of their declaration
unfoldable pub printed_as : Kind → Printed
printed_as kind.Missing = without_context (codes "missing") (codes "Field required")
printed_as kind.ExtraForbidden =
    without_context (codes "extra_forbidden") (codes "Extra inputs are not permitted")
printed_as kind.RecursionLoop =
    without_context (codes "recursion_loop") (codes "Recursion error - cyclic reference detected")
printed_as (kind.JsonInvalid error) =
    about (codes "json_invalid") (codes "Invalid JSON: " ++ error) (codes "error") (quoted error)
printed_as kind.NoneRequired =
    without_context (codes "none_required") (codes "Input should be null")
printed_as kind.BoolType =
    without_context (codes "bool_type") (codes "Input should be a valid boolean")
printed_as kind.BoolParsing =
    without_context (codes "bool_parsing")
    (codes "Input should be a valid boolean, unable to interpret input")
printed_as kind.IntType =
    without_context (codes "int_type") (codes "Input should be a valid integer")
printed_as kind.IntParsing =
    without_context (codes "int_parsing")
    (codes "Input should be a valid integer, unable to parse string as an integer")
printed_as kind.IntParsingSize =
    without_context (codes "int_parsing_size")
    (codes "Unable to parse input as an integer, exceeded maximum size")
printed_as kind.IntFromFloat =
    without_context (codes "int_from_float")
    (codes "Input should be a valid integer, got a number with a fractional part")
printed_as (kind.MultipleOf n) =
    about (codes "multiple_of") (codes "Input should be a multiple of " ++ signed_decimal n)
    (codes "multiple_of") (signed_decimal n)
printed_as (kind.GreaterThan n) =
    about (codes "greater_than") (codes "Input should be greater than " ++ signed_decimal n)
    (codes "gt") (signed_decimal n)
printed_as (kind.GreaterThanEqual n) =
    about (codes "greater_than_equal")
    (codes "Input should be greater than or equal to " ++ signed_decimal n) (codes "ge")
    (signed_decimal n)
printed_as (kind.LessThan n) =
    about (codes "less_than") (codes "Input should be less than " ++ signed_decimal n) (codes "lt")
    (signed_decimal n)
printed_as (kind.LessThanEqual n) =
    about (codes "less_than_equal")
    (codes "Input should be less than or equal to " ++ signed_decimal n) (codes "le")
    (signed_decimal n)
printed_as kind.StringType =
    without_context (codes "string_type") (codes "Input should be a valid string")
printed_as (kind.StringTooShort n) =
    about (codes "string_too_short")
    (codes "String should have at least " ++ counted n (codes " character")) (codes "min_length")
    (decimal n)
printed_as (kind.StringTooLong n) =
    about (codes "string_too_long")
    (codes "String should have at most " ++ counted n (codes " character")) (codes "max_length")
    (decimal n)
printed_as (kind.StringPatternMismatch pattern) =
    about (codes "string_pattern_mismatch")
    (codes "String should match pattern '" ++ (pattern ++ codes "'")) (codes "pattern")
    (quoted pattern)
printed_as kind.BytesType =
    without_context (codes "bytes_type") (codes "Input should be a valid bytes")
printed_as (kind.BytesTooShort n) =
    about (codes "bytes_too_short")
    (codes "Data should have at least " ++ counted n (codes " byte")) (codes "min_length")
    (decimal n)
printed_as (kind.BytesTooLong n) =
    about (codes "bytes_too_long") (codes "Data should have at most " ++ counted n (codes " byte"))
    (codes "max_length") (decimal n)
printed_as (kind.LiteralError expected) =
    about (codes "literal_error") (codes "Input should be " ++ expected) (codes "expected")
    (quoted expected)
printed_as (kind.Enum expected) =
    about (codes "enum") (codes "Input should be " ++ expected) (codes "expected") (quoted expected)
printed_as kind.UuidType =
    without_context (codes "uuid_type") (codes "UUID input should be a string")
printed_as kind.UuidParsing =
    without_context (codes "uuid_parsing") (codes "Input should be a valid UUID")
printed_as (kind.UuidVersion n) =
    about (codes "uuid_version") (codes "UUID version " ++ (decimal n ++ codes " expected"))
    (codes "expected_version") (decimal n)
printed_as kind.UrlType = without_context (codes "url_type") (codes "URL input should be a string")
printed_as kind.UrlParsing =
    without_context (codes "url_parsing") (codes "Input should be a valid URL")
printed_as (kind.UrlTooLong n) =
    about (codes "url_too_long")
    (codes "URL should have at most " ++ counted n (codes " character")) (codes "max_length")
    (decimal n)
printed_as (kind.UrlScheme expected) =
    about (codes "url_scheme") (codes "URL scheme should be " ++ expected)
    (codes "expected_schemes") (quoted expected)
printed_as kind.ListType =
    without_context (codes "list_type") (codes "Input should be a valid array")
printed_as kind.TupleType =
    without_context (codes "tuple_type") (codes "Input should be a valid array")
printed_as kind.SetType = without_context (codes "set_type") (codes "Input should be a valid array")
printed_as kind.FrozenSetType =
    without_context (codes "frozen_set_type") (codes "Input should be a valid array")
printed_as kind.DictType = without_context (codes "dict_type") (codes "Input should be an object")
printed_as kind.ModelType = without_context (codes "model_type") (codes "Input should be an object")
printed_as (kind.TooShort field_type bound actual) =
    sized (codes "too_short") field_type (codes " should have at least ") (codes "min_length")
    bound actual
printed_as (kind.TooLong field_type bound actual) =
    sized (codes "too_long") field_type (codes " should have at most ") (codes "max_length") bound
    actual
printed_as kind.SetItemNotHashable =
    without_context (codes "set_item_not_hashable") (codes "Set items should be hashable")
printed_as kind.DictKeyNotHashable =
    without_context (codes "dict_key_not_hashable") (codes "Dictionary keys should be hashable")
printed_as (kind.UnionTagInvalid discriminator tag expected_tags) =
    tag_unknown discriminator tag expected_tags
printed_as (kind.UnionTagNotFound discriminator) =
    about (codes "union_tag_not_found")
    (codes "Unable to extract tag using discriminator " ++ discriminator) (codes "discriminator")
    (quoted discriminator)
printed_as (kind.ValueError error) =
    about (codes "value_error") (codes "Value error, " ++ error) (codes "error") (quoted error)
printed_as (kind.AssertionError error) =
    about (codes "assertion_error") (codes "Assertion failed, " ++ error) (codes "error")
    (quoted error)
printed_as (kind.Custom name message) = without_context name message
