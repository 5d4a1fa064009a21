-- The names that nodes refer to.
use Rattle.std.specs.Prelude.{ℕ, List, Option, None, Some}
use Rattle.pv_node.specs.declared.Body.TheOpen.{Body-F}

-- the name of the node that a node refers to, where it is a reference
abbrev pub reference_of : {X Y : Type 0} → Body-F X Y → Option (List ℕ)
reference_of (Body-F.Scalar r) = None
reference_of (Body-F.Sequence r items) = None
reference_of (Body-F.Tuple r items) = None
reference_of (Body-F.Dict r keys values) = None
reference_of (Body-F.Nullable inner) = None
reference_of (Body-F.Fields r fields extras config cls) = None
reference_of (Body-F.Model cls root config inner) = None
reference_of (Body-F.Default default validates failing inner) = None
reference_of (Body-F.Union r choices) = None
reference_of (Body-F.TaggedUnion r choices) = None
reference_of (Body-F.LaxOrStrict lax strict) = None
reference_of (Body-F.JsonOrPython json) = None
reference_of (Body-F.CustomError kind message inner) = None
reference_of (Body-F.Before r inner) = None
reference_of (Body-F.After r inner) = None
reference_of (Body-F.Wrap r inner) = None
reference_of (Body-F.Plain r) = None
reference_of (Body-F.Definitions inner definitions) = None
reference_of (Body-F.DefinitionRef name) = Some name
