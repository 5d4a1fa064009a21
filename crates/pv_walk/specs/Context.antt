-- What a run brings to a schema: its strictness, where it has one, and the functions by their names.
use Rattle.std.specs.Prelude.{Bool, Option, None, Some}
use Rattle.pv_func.specs.Functions.{Named, Meaning}

-- the context of a run
pub record Context : Type 0 where
  pub strict : Option Bool
  pub functions : Named Meaning

-- the strictness of the run, where it has one, else that of the place
abbrev pub strict_in : Option Bool → Bool → Bool
strict_in None own = own
strict_in (Some strict) own = strict
