-- The table of a schema: record by record, in the order of its places, and one more for absent
-- schemas.
use Rattle.std.specs.Prelude.{◌≡◌, ℕ, ◌+◌, false, List, [], ◌∷◌, ◌++◌, length, Option, Some, None}
use Rattle.pv_rules.specs.Settings.{plain}
use Rattle.pv_rules.specs.declared.ScalarRule.TheVariants as rule
use Rattle.pv_node.specs.declared.Node.{Node}
use Rattle.pv_node.specs.Places.{Slot, Place, body_of, slots_of}
use Rattle.pv_node.specs.Preorder.{count_at, node_count}
use Rattle.pv_references.specs.Numbers.{number_named}
use Rattle.pv_references.specs.Targets.{reference_of}
use Rattle.pv_plan.specs.Records.{op_at, own_strict, own_validates, all_places}
use Rattle.pv_plan.specs.declared.record.Op.TheVariants as op
use Rattle.pv_plan.specs.declared.record.Record.{Record}

-- the number of a child schema that stands at this number, or that of the last record for an absent
-- one
abbrev pub number_of : ℕ → ℕ → Option Node → ℕ
number_of last at None = last
number_of last at (Some n) = at

-- the numbers of child schemas that stand one after another, the first at this number
abbrev pub numbers : ℕ → ℕ → List (Slot Node) → List ℕ
numbers last at [] = []
numbers last at (slot ∷ ss) =
    number_of last at slot.node ∷ numbers last (at + count_at slot.node) ss

-- the number of the node that a node refers to, where it is a reference
abbrev pub target_number : Node → ℕ → Option (List ℕ) → List ℕ
target_number root last None = []
target_number root last (Some name) = number_named root last name ∷ []

-- the numbers of the places that a place leads to, by the name that it refers to, where it is a
-- reference; its child schemas stand one after another, the first at this number
abbrev pub children_at : Node → ℕ → ℕ → Place → Option (List ℕ) → List ℕ
children_at root last at place None = numbers last at (slots_of place.node)
children_at root last at place (Some name) = number_named root last name ∷ []

-- the record of a place, by its number and by the numbers of its children
abbrev pub record_with : Node → ℕ → Place → List ℕ → Record
record_with root at place children = record {
  op = op_at root place at;
  children = children;
  strict = own_strict place;
  validate_default = own_validates place;
}

-- the record of a place that has this number; its children stand behind it
abbrev pub record_at : Node → ℕ → ℕ → Place → Record
record_at root last at place =
    record_with root at place
    (children_at root last (at + 1) place (reference_of (body_of place.node)))

-- the records of places that stand one after another, the first at this number
unfoldable pub table_from : Node → ℕ → ℕ → List Place → List Record
table_from root last at [] = []
table_from root last at (place ∷ ps) =
    record_at root last at place ∷ table_from root last (at + 1) ps

-- a table grew by the records of these places
abbrev pub Grows : Node → ℕ → List Record → List Record → List Place → Type 0
Grows root last old new ps = new ≡ old ++ table_from root last (length old) ps

-- a record with these children
abbrev pub with_children : Record → List ℕ → Record
with_children r children = record {
  op = r.op;
  children = children;
  strict = r.strict;
  validate_default = r.validate_default;
}

-- the record that stands for absent schemas: it takes any value
abbrev pub absent_record : Record
absent_record = record {
  op = op.Scalar (rule.Any, plain);
  children = [];
  strict = false;
  validate_default = false;
}

-- the records of a whole schema
unfoldable pub table_of : Node → List Record
table_of root = table_from root (node_count root) 0 (all_places root)
