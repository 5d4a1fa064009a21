-- Which values may be items of sets and keys of dicts.
use Rattle.std.specs.Prelude.{Bool, true, false}
use Rattle.std.specs.List.{list_all}
use Rattle.pv_tree.specs.declared.Value.{Value, fold-Value}
use Rattle.pv_tree.specs.declared.Value.TheOpen.{Value-F}

-- one level, with the answer for each value inside in its place
abbrev pub hashable_at : Value-F Bool → Bool
hashable_at Value-F.None = true
hashable_at (Value-F.Bool b) = true
hashable_at (Value-F.Int n) = true
hashable_at (Value-F.Lexeme lexeme) = true
hashable_at (Value-F.Str text) = true
hashable_at (Value-F.Bytes bytes) = true
hashable_at (Value-F.Atom kind text) = true
hashable_at (Value-F.Enum cls name value) = true
hashable_at (Value-F.List values) = false
hashable_at (Value-F.Tuple values) = list_all (λ h. h) values
hashable_at (Value-F.Set values) = false
hashable_at (Value-F.Frozen values) = list_all (λ h. h) values
hashable_at (Value-F.Dict entries) = false
hashable_at (Value-F.Model cls fields set extra) = false
hashable_at (Value-F.Root cls value) = false

-- of a value
abbrev pub hashable : Value → Bool
hashable = fold-Value Bool hashable_at
