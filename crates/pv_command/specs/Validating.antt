-- The words of `validate`, apart from how words are read.
use Rattle.std.specs.Prelude.{◌≡◌, ℕ, Bool, false, true, ◌&&◌, List, [], ◌∷◌, ◌++◌, codes, Option, Some, None}
use Rattle.pv_command.specs.Options.{is_option}
use Rattle.pv_command.specs.Operands.{is_input}

-- the words that say strict or lax
abbrev pub said : Option Bool → List (List ℕ)
said None = []
said (Some true) = codes "--strict" ∷ []
said (Some false) = codes "--lax" ∷ []

pub record IsValidate (words : List (List ℕ)) (strict : Option Bool) (schema document : List ℕ) :
    Type 0 where
  pub whole : words ≡ codes "validate" ∷ said strict ++ schema ∷ document ∷ []
  pub plain : is_option schema ≡ false
  pub apart : (is_input schema && is_input document) ≡ false
