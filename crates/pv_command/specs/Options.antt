-- The options of the commands.
use Rattle.std.specs.Prelude.{ℕ, Bool, false, true, ◌&&◌, ◌==◌, if◌then◌else◌, List, [], ◌∷◌, codes, Option, Some, None, is_some, bytes_eq}
use Rattle.std.specs.List.{find}
use Rattle.pv_tree.specs.declared.Tree.{Tree}
use Rattle.pv_command.specs.declared.options.Options.{Options}

-- the byte that options begin with
abbrev pub dash : ℕ
dash = 45

-- it begins with two dashes
abbrev pub is_option : List ℕ → Bool
is_option [] = false
is_option (a ∷ []) = false
is_option (a ∷ b ∷ more) = a == dash && b == dash

-- no option stood
abbrev pub no_options : Options
no_options = record {
  strict = None;
  include = None;
  exclude = None;
  by_alias = false;
  exclude_unset = false;
  exclude_defaults = false;
  exclude_none = false;
}

-- what an option makes of the options before it: it stands by itself, or the next word is its pick
pub data Effect : Type 0 where
  flag : Options → Effect
  with_pick : (Tree → Options) → Effect

-- an option, behind which options it can no longer stand, and what it makes of them
pub record Row : Type 0 where
  pub name : List ℕ
  pub is_barred : Options → Bool
  pub effect : Options → Effect

-- a row of these parts
abbrev pub row : List ℕ → (Options → Bool) → (Options → Effect) → Row
row name is_barred effect = record { name = name; is_barred = is_barred; effect = effect }

-- Each option bars itself, and each of these two the other.
abbrev pub strictness : List Row
strictness =
    row (codes "--strict") (λ o. is_some o.strict) (λ o. flag (record o { strict = Some true })) ∷
    row (codes "--lax") (λ o. is_some o.strict) (λ o. flag (record o { strict = Some false })) ∷ []

-- the options of a dump alone, of which each bars itself
abbrev pub serialisation : List Row
serialisation =
    row (codes "--include") (λ o. is_some o.include)
    (λ o. with_pick (λ t. record o { include = Some t })) ∷
    row (codes "--exclude") (λ o. is_some o.exclude)
    (λ o. with_pick (λ t. record o { exclude = Some t })) ∷
    row (codes "--by-alias") (λ o. o.by_alias) (λ o. flag (record o { by_alias = true })) ∷
    row (codes "--exclude-unset") (λ o. o.exclude_unset)
    (λ o. flag (record o { exclude_unset = true })) ∷
    row (codes "--exclude-defaults") (λ o. o.exclude_defaults)
    (λ o. flag (record o { exclude_defaults = true })) ∷
    row (codes "--exclude-none") (λ o. o.exclude_none)
    (λ o. flag (record o { exclude_none = true })) ∷ []

-- of the row that was found
abbrev pub effect_by : Options → Option Row → Option Effect
effect_by o None = None
effect_by o (Some r) = if r.is_barred o then None else Some (r.effect o)

-- what this word makes of the options before it, where it can stand behind them
unfoldable pub effect_of : List Row → Options → List ℕ → Option Effect
effect_of rows o word = effect_by o (find (λ r. bytes_eq word r.name) rows)
