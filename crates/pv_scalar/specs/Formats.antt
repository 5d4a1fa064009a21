-- UUIDs and URLs.
use Rattle.std.specs.Prelude.{ℕ, nat_le, ◌==◌, bytes_eq, List, map, Option, None, Some, Err}
use Rattle.std.specs.List.{list_any}
use Rattle.pv_tree.specs.declared.Value.{Value}
use Rattle.pv_tree.specs.declared.Value.TheVariants as value
use Rattle.pv_tree.specs.declared.AtomKind.TheVariants.{Uuid, Url}
use Rattle.pv_rules.specs.declared.UrlRule.{UrlRule}
use Rattle.pv_rules.specs.declared.Literal.TheVariants as literal
use Rattle.pv_fault.specs.declared.Grade.TheVariants.{Strict}
use Rattle.pv_fault.specs.declared.Kind.{Kind}
use Rattle.pv_fault.specs.declared.Kind.TheVariants as kind
use Rattle.pv_formats.specs.Uuids.{uuid_of}
use Rattle.pv_formats.specs.Urls.{url_of}
use Rattle.pv_formats.specs.declared.UuidText.{UuidText}
use Rattle.pv_formats.specs.declared.UrlText.{UrlText}
use Rattle.pv_scalar.specs.Tests.{Graded, with_fault, unless}
use Rattle.pv_scalar.specs.Texts.{char_count}
use Rattle.pv_scalar.specs.Literals.{expected_text}

-- a UUID has to be of the version that is asked for
abbrev pub version_fault : Option ℕ → UuidText → Option Kind
version_fault version id = unless version (λ n. id.version == n) kind.UuidVersion

-- the UUID that a text is
abbrev pub uuid_by : Option ℕ → Option UuidText → Graded Value
uuid_by version (Some id) = with_fault (version_fault version id) (value.Atom Uuid id.text, Strict)
uuid_by version None = Err kind.UuidParsing

-- of a text
unfoldable pub uuid_in : Option ℕ → List ℕ → Graded Value
uuid_in version text = uuid_by version (uuid_of text)

-- before the text is read
abbrev pub url_length_fault : UrlRule → List ℕ → Option Kind
url_length_fault rule text =
    unless rule.max_length (λ bound. nat_le (char_count text) bound) kind.UrlTooLong

-- the case of letters counts
abbrev pub scheme_fault : Option (List (List ℕ)) → UrlText → Option Kind
scheme_fault allowed url =
    unless allowed (λ names. list_any (λ name. bytes_eq name url.scheme) names)
    (λ names. kind.UrlScheme (expected_text (map literal.Text names)))

-- the URL that a text is
abbrev pub url_by : UrlRule → Option UrlText → Graded Value
url_by rule (Some url) =
    with_fault (scheme_fault rule.allowed_schemes url) (value.Atom Url url.text, Strict)
url_by rule None = Err kind.UrlParsing

-- an answer, unless something is wrong before it
abbrev pub url_unless : Option Kind → Graded Value → Graded Value
url_unless None answer = answer
url_unless (Some kind) answer = Err kind

-- of a text
unfoldable pub url_in : UrlRule → List ℕ → Graded Value
url_in rule text = url_unless (url_length_fault rule text) (url_by rule (url_of text))
