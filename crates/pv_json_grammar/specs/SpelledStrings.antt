-- The grammar of strings (RFC 8259, section 7, in UTF-8), apart from the reader: which bytes spell
-- a text.
use Rattle.std.specs.Prelude.{◌≡◌, ◌≢◌, ℕ, ◌+◌, ◌*◌, ◌<◌, ◌≤◌, ◌⊎◌}
use Rattle.std.specs.Prelude.{List, [], ◌∷◌, ◌++◌, encode_utf8}
use Rattle.std.specs.Char.{IsScalar}
use Rattle.pv_json_grammar.specs.Bytes.{space, quote, backslash, lower_u}
use Rattle.pv_json_grammar.specs.Bytes.{first_high, first_low, past_surrogates}
use Rattle.pv_json_grammar.specs.Strings.{escaped, hex_value, joined}

-- four digits and their number
pub record Digits (text : List ℕ) (code : ℕ) : Type 0 where
  pub a : ℕ
  pub b : ℕ
  pub c : ℕ
  pub d : ℕ
  pub whole : text ≡ a ∷ b ∷ c ∷ d ∷ []
  pub small_a : hex_value a < 16
  pub small_b : hex_value b < 16
  pub small_c : hex_value c < 16
  pub small_d : hex_value d < 16
  pub counts : code ≡ ((hex_value a * 16 + hex_value b) * 16 + hex_value c) * 16 + hex_value d

-- the spelling of one character, and its bytes
pub data SpellsUnit (text bytes : List ℕ) : Type 0 where
  raw_unit : (c : ℕ) → IsScalar c → space ≤ c → c ≢ quote → c ≢ backslash
      → text ≡ encode_utf8 c → bytes ≡ encode_utf8 c → SpellsUnit text bytes
  short_unit : (b : ℕ) → escaped b ≢ 0
      → text ≡ backslash ∷ b ∷ [] → bytes ≡ escaped b ∷ [] → SpellsUnit text bytes
  code_unit : (u : ℕ) (t : List ℕ) → Digits t u → (u < first_high) ⊎ (past_surrogates ≤ u)
      → text ≡ backslash ∷ lower_u ∷ t → bytes ≡ encode_utf8 u → SpellsUnit text bytes
  pair_unit : (u v : ℕ) (s t : List ℕ) → Digits s u → Digits t v
      → first_high ≤ u → u < first_low → first_low ≤ v → v < past_surrogates
      → text ≡ backslash ∷ lower_u ∷ s ++ backslash ∷ lower_u ∷ t
      → bytes ≡ encode_utf8 (joined u v) → SpellsUnit text bytes

-- each pair is the spelling of a character and its bytes
abbrev pub AllUnits : List (List ℕ × List ℕ) → Type 0
AllUnits [] = Unit {0}
AllUnits (u ∷ us) = SpellsUnit u.0 u.1 × AllUnits us

-- the spellings, one after another
abbrev pub spelled : List (List ℕ × List ℕ) → List ℕ
spelled [] = []
spelled (u ∷ us) = u.0 ++ spelled us

-- the bytes, one after another
abbrev pub meant : List (List ℕ × List ℕ) → List ℕ
meant [] = []
meant (u ∷ us) = u.1 ++ meant us

-- a text between quotes
pub record SpellsString (text bytes : List ℕ) : Type 0 where
  pub units : List (List ℕ × List ℕ)
  pub each : AllUnits units
  pub whole : text ≡ quote ∷ spelled units ++ quote ∷ []
  pub means : bytes ≡ meant units
