-- What a scalar gives: a value with its grade, or what is wrong. Tests come after conversion, and
-- the first that fails is the only error.
use Rattle.std.specs.Prelude.{Bool, if◌then◌else◌, Option, None, Some, Result, Ok, Err}
use Rattle.std.specs.Option.{option_or}
use Rattle.pv_tree.specs.declared.Tree.{Tree}
use Rattle.pv_tree.specs.declared.Value.{Value}
use Rattle.pv_fault.specs.declared.Grade.{Grade}
use Rattle.pv_fault.specs.declared.Kind.{Kind}
use Rattle.pv_fault.specs.declared.Outcome.{Outcome}
use Rattle.pv_fault.specs.declared.Outcome.TheVariants.{Good}
use Rattle.pv_fault.specs.Single.{one_error}

-- a value with its grade, or what is wrong
abbrev pub Graded : Type 0 → Type 0
Graded A = Result (A × Grade) Kind

-- the lax column of a row, and the strict one
abbrev pub by_column : {A : Type 0} → Bool → A → A → A
by_column strict lax_answer strict_answer = if strict then strict_answer else lax_answer

-- what is made of the value
abbrev pub made_into : {A B : Type 0} → (A → B) → Graded A → Graded B
made_into f (Ok x) = Ok (f x.0, x.1)
made_into f (Err kind) = Err kind

-- a bound that is there has to be kept
abbrev pub unless : {A : Type 0} → Option A → (A → Bool) → (A → Kind) → Option Kind
unless None keeps kind = None
unless (Some bound) keeps kind = if keeps bound then None else Some (kind bound)

infixl 10 ◌orelse◌
-- the first of two that there is
abbrev pub ◌orelse◌ : Option Kind → Option Kind → Option Kind
a orelse b = option_or a b

-- a value, unless something is wrong
abbrev pub with_fault : {A : Type 0} → Option Kind → A × Grade → Graded A
with_fault None x = Ok x
with_fault (Some kind) x = Err kind

-- a value that is tested
abbrev pub tested : {A : Type 0} → (A → Option Kind) → Graded A → Graded A
tested fault (Ok x) = with_fault (fault x.0) x
tested fault (Err kind) = Err kind

-- the value, or one error at the tree itself
abbrev pub outcome_of : Tree → Graded Value → Outcome
outcome_of tree (Ok x) = Good x.0 x.1 None
outcome_of tree (Err kind) = one_error kind tree
