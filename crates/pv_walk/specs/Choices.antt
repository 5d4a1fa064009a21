-- What nodes give that pass on what a child gives: the one for their strictness, or one whose errors
-- are replaced.
use Rattle.std.specs.Prelude.{ℕ, Bool, true, false, List}
use Rattle.pv_tree.specs.declared.Tree.{Tree}
use Rattle.pv_fault.specs.declared.Kind.TheVariants as kind
use Rattle.pv_fault.specs.declared.Outcome.{Outcome}
use Rattle.pv_fault.specs.declared.Outcome.TheVariants.{Good, Bad}
use Rattle.pv_fault.specs.Single.{one_error}
use Rattle.pv_walk.specs.Rules.{Child}

-- by whether the node is strict: the first child where it is not, the second where it is
abbrev pub lax_or_strict : Bool → Child → Child → Tree → Outcome
lax_or_strict false lax strict t = lax t
lax_or_strict true lax strict t = strict t

-- the errors of an outcome replaced by one of this type
abbrev pub replaced : List ℕ → List ℕ → Tree → Outcome → Outcome
replaced error_type message t (Good v g n) = Good v g n
replaced error_type message t (Bad es) = one_error (kind.Custom error_type message) t

-- a child whose errors are replaced
unfoldable pub custom_error : List ℕ → List ℕ → Child → Tree → Outcome
custom_error error_type message child t = replaced error_type message t (child t)
