-- What a table of records means.
use Rattle.std.specs.Prelude.{ℕ, zero, suc, Bool, List, map, slice_get, Option, None, Some}
use Rattle.pv_tree.specs.declared.Tree.{Tree}
use Rattle.pv_fault.specs.declared.Kind.TheVariants as kind
use Rattle.pv_fault.specs.declared.Outcome.{Outcome}
use Rattle.pv_fault.specs.Single.{one_error}
use Rattle.pv_scalar.specs.Scalars.{scalar_of}
use Rattle.pv_func.specs.Functions.{Named, Meaning, before_named, after_named, plain_named, wrap_named}
use Rattle.pv_plan.specs.declared.Op.{Op}
use Rattle.pv_plan.specs.declared.Op.TheVariants as op
use Rattle.pv_plan.specs.declared.Record.{Record}
use Rattle.pv_walk.specs.declared.scene.Scene.{Scene}
use Rattle.pv_walk.specs.Rules.{Child, no_child, first, second, collection, nullable}
use Rattle.pv_walk.specs.Fields.{missing_value, fields}
use Rattle.pv_walk.specs.Wrapping.{model, default}
use Rattle.pv_walk.specs.Unions.{union, tagged}
use Rattle.pv_walk.specs.Choices.{lax_or_strict, custom_error}
use Rattle.pv_walk.specs.Functions.{before, after, plain, wrap}
use Rattle.pv_walk.specs.Context.{Context, strict_in}

-- what stands in where no tree is there, by an op, by whether defaults are validated, and by the
-- children: the default of a default
abbrev pub default_op : Op → Bool → List Child → Option Outcome
default_op (op.Default d stands_in) validates children =
    Some (missing_value validates (first children) d)
default_op (op.Scalar s) validates children = None
default_op (op.Gather r) validates children = None
default_op op.Nullable validates children = None
default_op (op.Fields p) validates children = None
default_op (op.Model cls root_model) validates children = None
default_op (op.Union labels left_to_right) validates children = None
default_op (op.TaggedUnion r) validates children = None
default_op op.LaxOrStrict validates children = None
default_op op.Inner validates children = None
default_op (op.CustomError error_type message) validates children = None
default_op (op.Before name) validates children = None
default_op (op.After name) validates children = None
default_op (op.Wrap name) validates children = None
default_op (op.Plain name) validates children = None

-- by a record, where there is one
abbrev pub default_record : (ℕ → Child) → Option Record → Option Outcome
default_record child None = None
default_record child (Some r) = default_op r.op r.validate_default (map child r.children)

-- One record, by the functions that there are, by its op, by its strictness, by whether defaults are
-- validated, by what its children mean, and by what stands in for each of them.
unfoldable pub operation : Named Meaning → Op → Bool → Bool → List Child → List (Option Outcome)
    → Tree → Outcome
operation fs (op.Scalar s) strict validates children defaults t = scalar_of s.0 s.1 strict t
operation fs (op.Gather r) strict validates children defaults t = collection r children t
operation fs op.Nullable strict validates children defaults t = nullable (first children) t
operation fs (op.Fields p) strict validates children defaults t =
    fields p.0 p.1 children defaults t
operation fs (op.Model cls root_model) strict validates children defaults t =
    model cls root_model (first children) t
operation fs (op.Default d stands_in) strict validates children defaults t =
    default stands_in validates (first children) d t
operation fs (op.Union labels left_to_right) strict validates children defaults t =
    union left_to_right labels children t
operation fs (op.TaggedUnion r) strict validates children defaults t = tagged r children t
operation fs op.LaxOrStrict strict validates children defaults t =
    lax_or_strict strict (first children) (second children) t
operation fs op.Inner strict validates children defaults t = first children t
operation fs (op.CustomError error_type message) strict validates children defaults t =
    custom_error error_type message (first children) t
operation fs (op.Before name) strict validates children defaults t =
    before (before_named fs name) (first children) t
operation fs (op.After name) strict validates children defaults t =
    after (after_named fs name) (first children) t
operation fs (op.Wrap name) strict validates children defaults t =
    wrap (wrap_named fs name) (first children) t
operation fs (op.Plain name) strict validates children defaults t =
    plain (plain_named fs name) t

-- what stands in for the record of a number of a table
abbrev pub default_of : List Record → (ℕ → Child) → ℕ → Option Outcome
default_of table child i = default_record child (slice_get table i)

-- the record of a number of a table, where there is one
abbrev pub at_record : List Record → Context → (ℕ → Child) → Option Record → Child
at_record table run child None t = no_child t
at_record table run child (Some r) t =
    operation run.functions r.op (strict_in run.strict r.strict) r.validate_default (map child r.children)
    (map (default_of table child) r.children) t

-- the record of a number, to this depth
unfoldable pub run_table : List Record → Context → ℕ → ℕ → Tree → Outcome
run_table table run zero i t = one_error kind.RecursionLoop t
run_table table run (suc d) i t =
    at_record table run (run_table table run d) (slice_get table i) t

-- the context of a run, by its strictness and by what the functions do
abbrev pub context_of : Option Bool → Named Meaning → Context
context_of strict functions = record { strict = strict; functions = functions }

-- the record of a number of a scene, to this depth
unfoldable pub means : Named Meaning → Scene → ℕ → ℕ → Child
means fs scene depth i t = run_table scene.table.now (context_of scene.run fs) depth i t
