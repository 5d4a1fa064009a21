-- What `check` prints of a schema.
use Rattle.std.specs.Prelude.{ℕ, List, ◌++◌, codes, decimal, length}
use Rattle.pv_node.specs.declared.Node.{Node}
use Rattle.pv_node.specs.Preorder.{node_count}
use Rattle.pv_references.specs.Names.{names_of}
use Rattle.pv_references.specs.Cycles.{chain}
use Rattle.pv_cli.specs.Documents.{printed}
use Rattle.pv_cli.specs.declared.answer.Answer.{Answer}
use Rattle.pv_cli.specs.declared.status.Status.TheVariants as status

-- these counts of nodes, of names, and of edges in a row that do not enter the input
abbrev pub counts_text : ℕ → ℕ → ℕ → List ℕ
counts_text nodes names edges =
    codes "nodes " ++ decimal nodes ++ codes " definitions " ++ decimal names
    ++ codes " chain " ++ decimal edges

-- how many nodes a schema has, how many names, and the most edges in a row that do not enter
abbrev pub checked : Node → Answer
checked schema =
    printed (counts_text (node_count schema) (length (names_of schema)) (chain schema))
    status.Valid
