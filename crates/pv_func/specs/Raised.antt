-- The errors of functions that raise.
use Rattle.pv_fault.specs.declared.Kind.{Kind}
use Rattle.pv_fault.specs.declared.Kind.TheVariants as kind
use Rattle.pv_func.specs.declared.raise.Raise.{Raise}
use Rattle.pv_func.specs.declared.raise.Raise.TheVariants as raise

-- the error of a function that raises
abbrev pub raised : Raise → Kind
raised (raise.Value error) = kind.ValueError error
raised (raise.Assertion error) = kind.AssertionError error
raised (raise.Custom error_type message) = kind.Custom error_type message
