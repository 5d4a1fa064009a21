-- What models and defaults give for a tree, by what their one child gives.
use Rattle.std.specs.Prelude.{ℕ, List, Option, Some, None, Bool, true, false}
use Rattle.pv_tree.specs.declared.Tree.{Tree}
use Rattle.pv_tree.specs.declared.Value.{Value, out-Value}
use Rattle.pv_tree.specs.declared.Value.TheVariants as value
use Rattle.pv_tree.specs.declared.Value.TheOpen.{Value-F}
use Rattle.pv_fault.specs.declared.Grade.{Grade}
use Rattle.pv_fault.specs.declared.Grade.TheVariants as grade
use Rattle.pv_fault.specs.declared.Kind.TheVariants as kind
use Rattle.pv_fault.specs.declared.Outcome.{Outcome}
use Rattle.pv_fault.specs.declared.Outcome.TheVariants.{Good, Bad}
use Rattle.pv_fault.specs.Single.{one_error}
use Rattle.pv_walk.specs.Rules.{Child}
use Rattle.pv_walk.specs.Fields.{missing_value}

-- the value of a model with this class; another value has none
abbrev pub with_class : List ℕ → Value-F Value → Option Value
with_class cls (Value-F.Model own fields set extra) = Some (value.Model cls fields set extra)
with_class cls x = None

-- the value of a model of this class around the value of its child, where there is one
abbrev pub model_value : List ℕ → Bool → Value → Option Value
model_value cls true v = Some (value.Root cls v)
model_value cls false v = with_class cls (out-Value v)

-- this value with a grade and a count, or the error of a tree that gives no model
abbrev pub modelled : Tree → Grade → Option ℕ → Option Value → Outcome
modelled t g n None = one_error kind.ModelType t
modelled t g n (Some v) = Good v g n

-- a model, by the outcome of its child
abbrev pub model_in : List ℕ → Bool → Tree → Outcome → Outcome
model_in cls root t (Good v g n) = modelled t g n (model_value cls root v)
model_in cls root t (Bad es) = Bad es

-- a model of this class; a root model takes any value, another one takes models
unfoldable pub model : List ℕ → Bool → Child → Tree → Outcome
model cls root child t = model_in cls root t (child t)

-- an outcome, which is lax where it succeeds
abbrev pub laxly : Outcome → Outcome
laxly (Good v g n) = Good v grade.Lax n
laxly (Bad es) = Bad es

-- a default that may stand in where its child fails, by the outcome of the child
abbrev pub default_in : Bool → Bool → Child → Tree → Outcome → Outcome
default_in stands_in validates child default (Good v g n) = Good v g n
default_in false validates child default (Bad es) = Bad es
default_in true validates child default (Bad es) = laxly (missing_value validates child default)

-- of a tree
unfoldable pub default : Bool → Bool → Child → Tree → Tree → Outcome
default stands_in validates child d t = default_in stands_in validates child d (child t)
