-- URLs, as the crate `url` reads and writes them.
use Rattle.std.specs.Prelude.{ℕ, List, Option, None, Some, Ok, Err}
use Rattle.url.specs.Parser.{Parsed, parse_url}
use Rattle.url.specs.Parts.{Parts, serialize}
use Rattle.pv_formats.specs.declared.urls.UrlText.{UrlText}

abbrev pub url_text : Parsed Parts → Option UrlText
url_text (Ok url) = Some (record { scheme = url.scheme; text = serialize url })
url_text (Err e) = None

-- the scheme and the text of the record, where the text is a URL
unfoldable pub url_of : List ℕ → Option UrlText
url_of text = url_text (parse_url None text)
