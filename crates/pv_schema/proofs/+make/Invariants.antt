use Rattle.std.proofs.Common.{◌≡◌, drop, take, map}
use Rattle.pv_schema_check.specs.Find.{find, itself}
use Rattle.pv_schema_table.specs.Keys.{text}
use Rattle.pv_schema.specs.Fields.{field_schemas}
use Rattle.pv_schema.specs.Choices.{choice_schemas, tagged_schemas}
use Rattle.pv_schema.specs.Making.{choices_in, named_in, fields_in, made}
use Rattle.pv_schema_table.specs.declared.Key.TheVariants as key
use Rattle.pv_schema_table.specs.declared.Kind.TheVariants as kind
use Rattle.pv_schema.proofs.+make.Given as goal

abbrev pub invariant-children::make_child-loop-name : goal.invariant-children::make_child-loop-name
invariant-children::make_child-loop-name l = find (text l.key) (drop l.name-index l.name-items) ≡ find (text l.key) l.members.members

abbrev pub invariant-children::make_children-loop-name : goal.invariant-children::make_children-loop-name
invariant-children::make_children-loop-name l = find (text l.key) (drop l.name-index l.name-items) ≡ find (text l.key) l.members.members

abbrev pub invariant-making::make_items-loop-item : goal.invariant-making::make_items-loop-item
invariant-making::make_items-loop-item l = l.nodes.items ≡ map (λ t. made t kind.Schema) (take l.item-index l.items)

abbrev pub invariant-children::make_required-loop-name : goal.invariant-children::make_required-loop-name
invariant-children::make_required-loop-name l = find (text l.key) (drop l.name-index l.name-items) ≡ find (text l.key) l.members.members

abbrev pub invariant-choice_schemas::make_choices-loop-choice : goal.invariant-choice_schemas::make_choices-loop-choice
invariant-choice_schemas::make_choices-loop-choice l =
    l.nodes.items ≡ choice_schemas (choices_in itself made (take l.choice-index l.choices))

abbrev pub invariant-choice_schemas::make_tagged-loop-choice : goal.invariant-choice_schemas::make_tagged-loop-choice
invariant-choice_schemas::make_tagged-loop-choice l =
    l.nodes.items ≡ tagged_schemas (named_in itself made kind.Schema (take l.choice-index l.choice-items))

abbrev pub invariant-choice_schemas::make_choices_under-loop-name : goal.invariant-choice_schemas::make_choices_under-loop-name
invariant-choice_schemas::make_choices_under-loop-name l = find (text key.Choices) (drop l.name-index l.name-items) ≡ find (text key.Choices) l.members.members

abbrev pub invariant-choice_schemas::make_tagged_under-loop-name : goal.invariant-choice_schemas::make_tagged_under-loop-name
invariant-choice_schemas::make_tagged_under-loop-name l = find (text key.Choices) (drop l.name-index l.name-items) ≡ find (text key.Choices) l.members.members

abbrev pub invariant-children::make_fields_under-loop-name : goal.invariant-children::make_fields_under-loop-name
invariant-children::make_fields_under-loop-name l = find (text key.Fields) (drop l.name-index l.name-items) ≡ find (text key.Fields) l.members.members

abbrev pub invariant-children::make_field_schemas-loop-field : goal.invariant-children::make_field_schemas-loop-field
invariant-children::make_field_schemas-loop-field l =
    l.nodes.items ≡ field_schemas (fields_in itself made l.kind (take l.field-index l.field-items))
