-- What the text of a pattern means, by the grammar of the crate `regex` and its searches.
use Rattle.std.specs.Prelude.{◌≡◌, ◌≤◌, ◌<◌, nat_le, get_or, ℕ, Bool, false, List, None, IsSomeAnd, chars, is_some, unwrap_or, option_map}
use Rattle.regex.specs.Patterns.{Re, default_config, find_str}
use Rattle.regex_syntax.specs.Grammar.{read}

-- the grammar reads the text, within its bound on nesting
abbrev pub IsReadable : List ℕ → Type 0
IsReadable text =
    IsSomeAnd (read default_config (chars text))
    (λ (re, names). re.depth ≤ default_config.nest_limit)

-- the grammar has no reading of the text
abbrev pub HasNoReading : List ℕ → Type 0
HasNoReading text = read default_config (chars text) ≡ None

-- whether the pattern has a match anywhere in the text
unfoldable pub matches : List ℕ → List ℕ → Bool
matches pattern text =
    unwrap_or (option_map (λ (re, names). is_some (find_str re.value text 0))
    (read default_config (chars pattern))) false

-- the expression is found in a text exactly where the pattern matches it
abbrev pub MatchesAs : Re → List ℕ → Type 0
MatchesAs re pattern =
    (text : List ℕ) → ((k : ℕ) → get_or text k 0 < 256) →
    is_some (find_str re text 0) ≡ matches pattern text

-- whether the text of a pattern is readable
abbrev pub is_readable : List ℕ → Bool
is_readable text =
    unwrap_or (option_map (λ (re, names). nat_le re.depth default_config.nest_limit)
    (read default_config (chars text))) false
