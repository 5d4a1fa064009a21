-- What the table of keys allows of the nodes of a schema, and that there are not too many.
use Rattle.std.specs.Prelude.{◌≡◌, ◌≤◌, IsTrue, is_some, length}
use Rattle.std.specs.List.{AllByRecursion}
use Rattle.std.specs.Option.{IfSome}
use Rattle.pv_rules.specs.Allowed.{IsAllowedRule, IsSequence, HasNoPositions, HasPositions, AreFields, AreSettings, IsUnion, IsTagged}
use Rattle.pv_rules.specs.declared.Collection.TheVariants as collection
use Rattle.pv_node.specs.declared.node.Node.{Node, out-Node}
use Rattle.pv_node.specs.declared.node.Body.{Body}
use Rattle.pv_node.specs.declared.node.Body.TheOpen.{Body-F}
use Rattle.pv_node.specs.Places.{body_of}
use Rattle.pv_node.specs.Preorder.{preorder, node_count}

-- a node that has a name
abbrev pub IsNamed : Node → Type 0
IsNamed n = IsTrue (is_some (out-Node n).own_ref)

-- what a node may ask for
abbrev pub IsAllowedBody : Body-F Body Node → Type 0
IsAllowedBody (Body-F.Scalar r) = IsAllowedRule r
IsAllowedBody (Body-F.Sequence r items) = IsSequence r.kind × HasNoPositions r
IsAllowedBody (Body-F.Tuple r items) = HasPositions r (length items)
IsAllowedBody (Body-F.Dict r keys values) = (r.kind ≡ collection.Dict) × HasNoPositions r
IsAllowedBody (Body-F.Nullable inner) = Unit {0}
IsAllowedBody (Body-F.Fields r fields extras config cls) = AreFields r (length fields) config cls
IsAllowedBody (Body-F.Model cls root config inner) = IfSome config AreSettings
IsAllowedBody (Body-F.Default default validate on_error inner) = Unit {0}
IsAllowedBody (Body-F.Union r choices) = IsUnion r (length choices)
IsAllowedBody (Body-F.TaggedUnion r choices) = IsTagged r (length choices)
IsAllowedBody (Body-F.LaxOrStrict lax strict) = Unit {0}
IsAllowedBody (Body-F.JsonOrPython json) = Unit {0}
IsAllowedBody (Body-F.CustomError kind message inner) = Unit {0}
IsAllowedBody (Body-F.Before r inner) = Unit {0}
IsAllowedBody (Body-F.After r inner) = Unit {0}
IsAllowedBody (Body-F.Wrap r inner) = Unit {0}
IsAllowedBody (Body-F.Plain r) = Unit {0}
IsAllowedBody (Body-F.Definitions inner definitions) = AllByRecursion IsNamed definitions
IsAllowedBody (Body-F.DefinitionRef name) = Unit {0}

-- a node
abbrev pub IsAllowed : Node → Type 0
IsAllowed n = IsAllowedBody (body_of n)

-- each node of a schema
unfoldable pub AreAllowed : Node → Type 0
AreAllowed root = AllByRecursion IsAllowed (preorder root)

-- a schema: each of its nodes is allowed, and they are not too many
pub record IsSchema (root : Node) : Type 0 where
  pub size : node_count root ≤ 100000
  pub allowed : AreAllowed root
