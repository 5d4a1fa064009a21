-- What nodes with functions give for a tree, by what their functions do and what their children
-- give. A function that is not there gives what a child gives that is not there.
use Rattle.std.specs.Prelude.{ℕ, Option, None, Some}
use Rattle.pv_tree.specs.declared.Tree.{Tree}
use Rattle.pv_tree.specs.declared.Value.{Value}
use Rattle.pv_fault.specs.declared.Grade.{Grade}
use Rattle.pv_fault.specs.declared.Grade.TheVariants as grade
use Rattle.pv_fault.specs.declared.Outcome.{Outcome}
use Rattle.pv_fault.specs.declared.Outcome.TheVariants.{Good, Bad}
use Rattle.pv_fault.specs.Single.{one_error}
use Rattle.pv_func.specs.declared.Made.{Made}
use Rattle.pv_func.specs.declared.Made.TheVariants as made
use Rattle.pv_func.specs.declared.Raw.{Raw}
use Rattle.pv_func.specs.declared.Raw.TheVariants as raw
use Rattle.pv_func.specs.Exchange.{exchange}
use Rattle.pv_func.specs.Raised.{raised}
use Rattle.pv_func.specs.Wrapper.{Wrapper}
use Rattle.pv_walk.specs.Rules.{Child, no_child}

-- what the child gives for the tree that a function gives, or the error that it raises
abbrev pub before_by : Child → Tree → Raw → Outcome
before_by child t (raw.Give u) = child u
before_by child t (raw.Raise r) = one_error (raised r) t

-- a function that sees the tree before the child does
abbrev pub before : Option (Tree → Raw) → Child → Tree → Outcome
before None child t = no_child t
before (Some f) child t = before_by child t (f t)

-- the value that a function gives, with this grade and count, or the error that it raises
abbrev pub made_with : Grade → Option ℕ → Tree → Made → Outcome
made_with g n t (made.Give v) = Good v g n
made_with g n t (made.Raise r) = one_error (raised r) t

-- what a function makes of the outcome of a child: it sees a value alone
abbrev pub after_by : (Value → Made) → Tree → Outcome → Outcome
after_by f t (Good v g n) = made_with g n t (f v)
after_by f t (Bad es) = Bad es

-- a function that sees the value that the child gives
abbrev pub after : Option (Value → Made) → Child → Tree → Outcome
after None child t = no_child t
after (Some f) child t = after_by f t (child t)

-- a function in the place of a child: what it gives is lax, and has no count
abbrev pub plain : Option (Tree → Made) → Tree → Outcome
plain None t = no_child t
plain (Some f) t = made_with grade.Lax None t (f t)

-- a function around a child: it asks what the child gives for trees, and is answered
abbrev pub wrap : Option Wrapper → Child → Tree → Outcome
wrap None child t = no_child t
wrap (Some w) child t = exchange w t child
