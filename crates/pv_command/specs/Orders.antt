-- The options of a dump as they stand among the words.
use Rattle.std.specs.Prelude.{ℕ, List, [], ◌∷◌, ◌++◌, codes}

-- an option, by its name
pub data Choice : Type 0 where
  strict lax include exclude by_alias exclude_unset exclude_defaults exclude_none : Choice

-- an option, and behind it the word of its pick, where it takes one
abbrev pub spelled : Choice → List ℕ → List (List ℕ)
spelled strict pick = codes "--strict" ∷ []
spelled lax pick = codes "--lax" ∷ []
spelled include pick = codes "--include" ∷ pick ∷ []
spelled exclude pick = codes "--exclude" ∷ pick ∷ []
spelled by_alias pick = codes "--by-alias" ∷ []
spelled exclude_unset pick = codes "--exclude-unset" ∷ []
spelled exclude_defaults pick = codes "--exclude-defaults" ∷ []
spelled exclude_none pick = codes "--exclude-none" ∷ []

-- these options and then more words
abbrev pub options_before : List (Choice × List ℕ) → List (List ℕ) → List (List ℕ)
options_before [] more = more
options_before (c ∷ cs) more = spelled c.0 c.1 ++ options_before cs more

-- `dump` with these options, and then more words
abbrev pub dump_words : List (Choice × List ℕ) → List (List ℕ) → List (List ℕ)
dump_words options more = codes "dump" ∷ options_before options more
