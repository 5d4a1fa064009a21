-- Keys without an effect: what is made of an object does not ask for them.
use Rattle.std.specs.Prelude.{◌≡◌, ℕ, Bool, true, List, Option}
use Rattle.std.specs.List.{AllByRecursion}
use Rattle.pv_tree.specs.declared.Tree.{Tree}
use Rattle.pv_rules.specs.declared.FieldRule.{FieldRule}
use Rattle.pv_rules.specs.declared.FieldsKind.{FieldsKind}
use Rattle.pv_node.specs.declared.Node.{Node}
use Rattle.pv_schema.specs.Fields.{field_rule}
use Rattle.pv_schema_check.specs.Find.{find, itself, tree_at}
use Rattle.pv_schema_table.specs.Keys.{text}
use Rattle.pv_schema.specs.Making.{made, node_made, field_in, part_at}
use Rattle.pv_schema_table.specs.Table.{ObjectRow, TypeRow, keys}
use Rattle.pv_schema_table.specs.declared.KeyRow.{KeyRow}

-- the members of an object
abbrev pub Named : Type 0
Named = List (List ℕ × Tree)

-- two objects have the same under a key, where the key has an effect
abbrev pub AgreeUnder : Named → Named → KeyRow → Type 0
AgreeUnder ms ns r = r.effect ≡ true → find (text r.key) ms ≡ find (text r.key) ns

-- the same of all keys that an object takes
abbrev pub Agree : ObjectRow → Named → Named → Type 0
Agree o ms ns = AllByRecursion (AgreeUnder ms ns) (keys o)

-- the schema that is made of an object of a type
abbrev pub node_of_row : TypeRow → Named → Node
node_of_row row ms = node_made (tree_at itself ms) (part_at itself made ms) row.makes

-- the rule of a field of this name
abbrev pub rule_of : FieldsKind → Option Bool → List ℕ → Named → FieldRule
rule_of k total name ms = field_rule k total name (field_in itself made ms).keys

-- the schema of a field
abbrev pub schema_of_field : Named → Node
schema_of_field ms = (field_in itself made ms).schema

-- objects of a type that differ in keys without an effect alone are one schema
abbrev pub MakesOneNode : TypeRow → Type 0
MakesOneNode row =
    (ms ns : Named) → Agree row.object ms ns → node_of_row row ms ≡ node_of_row row ns

-- the same of fields: one rule and one schema
abbrev pub MakesOneField : FieldsKind → TypeRow → Type 0
MakesOneField k row =
    (ms ns : Named) (total : Option Bool) (name : List ℕ) → Agree row.object ms ns
    → (rule_of k total name ms ≡ rule_of k total name ns)
    × (schema_of_field ms ≡ schema_of_field ns)
