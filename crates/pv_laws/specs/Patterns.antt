-- The patterns of a schema.
use Rattle.std.specs.Prelude.{◌≡◌, false}
use Rattle.pv_node.specs.declared.Node.{Node}
use Rattle.pv_plan.specs.BadPatterns.{has_bad_pattern}

-- a node has no pattern, or one that the grammar of patterns reads within its bound on nesting
abbrev pub HasGoodPattern : Node → Type 0
HasGoodPattern n = has_bad_pattern n ≡ false
