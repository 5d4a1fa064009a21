-- The schema that a tree is, or its first refusal.
use Rattle.std.specs.Prelude.{◌≡◌, ℕ, nat_le, if◌then◌else◌, List, Option, None, Some}
use Rattle.std.specs.Prelude.{Result, Ok, Err}
use Rattle.pv_tree.specs.declared.Step.{Step}
use Rattle.pv_tree.specs.declared.Tree.{Tree}
use Rattle.pv_node.specs.declared.Node.{Node}
use Rattle.pv_node.specs.Preorder.{node_count}
use Rattle.pv_schema_check.specs.Checking.{faults}
use Rattle.pv_schema_table.specs.declared.Kind.TheVariants as kind
use Rattle.pv_schema_check.specs.Answers.{first}
use Rattle.pv_schema.specs.Making.{node_of}
use Rattle.pv_schema_check.specs.declared.Code.{Code}
use Rattle.pv_schema_check.specs.declared.Code.TheVariants as code
use Rattle.pv_schema_check.specs.declared.ShapeCode.{ShapeCode}
use Rattle.pv_schema_check.specs.declared.Refusal.{Refusal}
use Rattle.pv_schema.specs.declared.schema_fault.SchemaFault.{SchemaFault}
use Rattle.pv_schema.specs.declared.schema_fault.SchemaFault.TheVariants as fault

-- why a tree is no schema: the first place whose shape is wrong, the first that is not built yet,
-- or too many nodes
pub data NoSchema : Type 0 where
  shape : List Step → ShapeCode → NoSchema
  not_yet : List Step → NoSchema
  too_many : ℕ → NoSchema

-- a refusal as the reason
abbrev pub reason : List Step → Code → NoSchema
reason path (code.Shape c) = shape path c
reason path code.NotYet = not_yet path

-- a schema of few enough nodes
abbrev pub counted : Node → Result Node NoSchema
counted n = if nat_le (node_count n) 100000 then Ok n else Err (too_many (node_count n))

-- the first refusal, or a schema of few enough nodes where there is none
abbrev pub schema_by : Option Refusal → Node → Result Node NoSchema
schema_by (Some r) n = Err (reason r.path r.code)
schema_by None n = counted n

-- the schema that a tree is, or why it is none
unfoldable pub schema_of : Tree → Result Node NoSchema
schema_of t = schema_by (first (faults t kind.Schema)) (node_of t)

-- a fault is the one that is wanted; want of memory may come in its place
abbrev pub FaultIs : SchemaFault → Result Node NoSchema → Type 0
FaultIs (fault.Shape path c) wanted = wanted ≡ Err (shape path c)
FaultIs (fault.NotYet path) wanted = wanted ≡ Err (not_yet path)
FaultIs (fault.TooManyNodes count) wanted = wanted ≡ Err (too_many count)
FaultIs fault.Memory wanted = Unit {0}

-- an answer is the one that is wanted; want of memory may come in its place
abbrev pub Reads : Result Node SchemaFault → Result Node NoSchema → Type 0
Reads (Ok n) wanted = wanted ≡ Ok n
Reads (Err e) wanted = FaultIs e wanted
