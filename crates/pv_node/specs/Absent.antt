-- The node that stands for an absent schema: it takes any value.
use Rattle.std.specs.Prelude.{Option, None, Some}
use Rattle.pv_rules.specs.declared.ScalarRule.TheVariants as rule
use Rattle.pv_node.specs.declared.node.Node.{Node, roll-Node}
use Rattle.pv_node.specs.declared.node.Body.TheVariants as body

-- a node of the type `any`, without a name and without a strictness of its own
abbrev pub any : Node
any = roll-Node (record { own_ref = None; strict = None; body = body.Scalar rule.Any })

-- a node, or the one that stands for an absent one
abbrev pub or_any : Option Node → Node
or_any None = any
or_any (Some n) = n
