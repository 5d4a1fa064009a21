-- The texts of what is wrong in JSON.
use Rattle.std.specs.Prelude.{ℕ, List, ◌++◌, codes, decimal}

-- in a document, the byte at this place
abbrev pub bad_text : ℕ → List ℕ
bad_text at = codes "unexpected byte at offset " ++ decimal at

-- in a document that ends early
abbrev pub end_text : List ℕ
end_text = codes "unexpected end of input"

-- in a schema, the byte at this place
abbrev pub schema_bad_text : ℕ → List ℕ
schema_bad_text at = codes "not JSON at offset " ++ decimal at

-- in a schema that ends early
abbrev pub schema_end_text : List ℕ
schema_end_text = codes "JSON ends early"
